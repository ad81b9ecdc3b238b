-- The names of the groups of neighbours are in order, and each is one that a text can give.
use Rattle.std.proofs.Common.{ℕ, List, [], ◌∷◌, fold, Option, Some, None}
use Rattle.std.specs.List.Sorted.{IsStrictlySortedBy}
use Rattle.std.specs.Cmp.Lexicographic.{slice_cmp, nat_list_cmp_total}
use Rattle.std.specs.Ordering.{nat_cmp}
use Rattle.conf_tree.specs.declared.conf.Conf.{Conf}
use Rattle.conf_tree.specs.declared.neighbour.Neighbour.{Neighbour}
use Rattle.conf_tree.specs.Flat.{text_cmp}
use Rattle.conf_tree.specs.Canonical.{with_name, group_names}
use Rattle.conf_tree.specs.Readable.{Each, IfThere, IsGroupName, IsNeighbour}
use Rattle.conf_tree.proofs.Each.{each_insert}
use Rattle.conf_tree.proofs.InOrder.{insert_sorted}

-- ---- their order

fold_sorted : (names : List (List ℕ)) (ns : List Neighbour) → IsStrictlySortedBy text_cmp names → IsStrictlySortedBy text_cmp (fold (λ names n. with_name names n.group) names ns)
fold_sorted names [] strict = strict
fold_sorted names (n ∷ ns) strict = fold_sorted (with_name names n.group) ns (by n.group)
  where
    by : (group : Option (List ℕ)) → IsStrictlySortedBy text_cmp (with_name names group)
    by None = strict
    by (Some name) = insert_sorted text_cmp nat_list_cmp_total names name strict

pub names_sorted : (ns : List Neighbour) → IsStrictlySortedBy text_cmp (group_names ns)
unfolding group_names IsStrictlySortedBy
names_sorted ns = fold_sorted [] ns tt

-- ---- their form

each_with : (names : List (List ℕ)) (group : Option (List ℕ)) → Each IsGroupName names → IfThere IsGroupName group → Each IsGroupName (with_name names group)
each_with names None h p = h
each_with names (Some name) h p = each_insert IsGroupName (slice_cmp nat_cmp) names name h p

each_name : (conf : Conf) (names : List (List ℕ)) (ns : List Neighbour) → Each IsGroupName names → Each (IsNeighbour conf) ns → Each IsGroupName (fold (λ names n. with_name names n.group) names ns)
each_name conf names [] h p = h
each_name conf names (n ∷ ns) h p = each_name conf (with_name names n.group) ns (each_with names n.group h p.0.group) p.1

pub each_group : (conf : Conf) (ns : List Neighbour) → Each (IsNeighbour conf) ns → Each IsGroupName (group_names ns)
unfolding group_names
each_group conf ns h = each_name conf [] ns tt h
