-- No two neighbours have one address, in whichever order they are written.
use Rattle.std.proofs.Common.{◌≡◌, ◌∙◌, ℕ, Bool, true, false, not, List, [], ◌∷◌, ◌++◌, ◌||◌, map, filter, flat_map, Option, Some, None, refl, sym, ap, subst, true≢false}
use Rattle.std.specs.Prelude.{bytes_eq, is_some}
use Rattle.std.specs.Option.{option_map_or}
use Rattle.std.specs.List.{AllByRecursion, IsDistinct, list_any}
use Rattle.std.specs.List.Sorted.{IsPermutation}
use Rattle.std.specs.declared.cmp.Ordering.{Ordering}
use Rattle.std.specs.declared.cmp.Ordering.TheVariants.{Less, Equal, Greater}
use Rattle.std.specs.Ordering.{on, is_eq, eq_by_cmp, ordering_reverse}
use Rattle.std.proofs.lemmas.Map.Keys.{IsDistinct-from_sorted, IsDistinct-IsPermutation}
use Rattle.std.proofs.lemmas.Slice.Eq.{bytes_eq-Decides}
use Rattle.net_base.specs.declared.addr.Addr.{Addr}
use Rattle.net_base.specs.Order.{addr_cmp}
use Rattle.net_base.proofs.Order.{addr_cmp-total}
use Rattle.conf_tree.proofs.Orders.{derived_addr_order, addr_same}
use Rattle.conf_tree.specs.declared.conf.Conf.{Conf}
use Rattle.conf_tree.specs.declared.neighbour.Neighbour.{Neighbour}
use Rattle.conf_tree.specs.Canonical.{is_alone, is_of_group, group_names}
use Rattle.conf_tree.specs.Checks.{same_addr}
use Rattle.conf_tree.specs.Settled.{IsSettled}
use Rattle.conf_back.proofs.Merged.{all_kept}
use Rattle.conf_back.proofs.GroupNames.{covered, groups_differ}
use Rattle.conf_back.proofs.PlacedBack.{written}
use Rattle.conf_back.proofs.Differing.{keys_apart, AreApart, parted}

addresses_same : eq_by_cmp addr_cmp ≡ same_addr
addresses_same = ap eq_by_cmp (sym derived_addr_order) ∙ addr_same

turned : (r : Ordering) → is_eq (ordering_reverse r) ≡ is_eq r
turned Less = refl
turned Equal = refl
turned Greater = refl

order_flips : (a b : Addr) → eq_by_cmp addr_cmp a b ≡ eq_by_cmp addr_cmp b a
order_flips a b = ap is_eq (addr_cmp-total.antisymm a b) ∙ turned (addr_cmp b a)

pub flips : (a b : Addr) → same_addr a b ≡ same_addr b a
flips a b = subst (λ (same : Addr → Addr → Bool). same a b ≡ same b a) addresses_same (order_flips a b)

abbrev same_place : Neighbour → Neighbour → Bool
same_place n m = same_addr n.address m.address

of_one : (group : Option (List ℕ)) (a b : List ℕ) → option_map_or (λ g. bytes_eq g a) group false ≡ true → option_map_or (λ g. bytes_eq g b) group false ≡ true → a ≡ b
of_one None a b first second = absurd (cc)
of_one (Some g) a b first second = sym ((bytes_eq-Decides g a).0 first) ∙ (bytes_eq-Decides g b).0 second

not_both : (group : Option (List ℕ)) (name : List ℕ) → not (is_some group) ≡ true → option_map_or (λ g. bytes_eq g name) group false ≡ true → ⊥
not_both None name alone of_group = cc
not_both (Some g) name alone of_group = cc

groups_apart : (a b : List ℕ) → bytes_eq a b ≡ false → AreApart (is_of_group a) (is_of_group b)
groups_apart a b differ n first second = true≢false (sym ((bytes_eq-Decides a b).1 (of_one n.group a b first second)) ∙ differ)

alone_apart : (names : List (List ℕ)) → AllByRecursion (λ name. AreApart is_alone (is_of_group name)) names
alone_apart [] = tt
alone_apart (name ∷ names) = (λ n alone of_group. not_both n.group name alone of_group, alone_apart names)

-- those written are those that there are
rearranged : (ns : List Neighbour) → IsPermutation ns (filter is_alone ns ++ flat_map (λ name. filter (is_of_group name) ns) (group_names ns))
rearranged ns =
    subst (λ (all : List Neighbour). IsPermutation all (filter is_alone ns ++ flat_map (λ name. filter (is_of_group name) ns) (group_names ns)))
    (all_kept (λ n. is_alone n || list_any (λ name. is_of_group name n) (group_names ns)) ns (covered ns))
    (parted bytes_eq is_of_group groups_apart ns is_alone (group_names ns) (alone_apart (group_names ns)) (groups_differ ns))

pub addresses_differ : (conf : Conf) → IsSettled conf → IsDistinct same_addr (map (λ n. n.address) (written conf))
addresses_differ conf s =
    let sorted : IsDistinct same_place conf.neighbours =
    subst (λ (same : Addr → Addr → Bool). IsDistinct (λ n m. same n.address m.address) conf.neighbours) addresses_same
    (IsDistinct-from_sorted (on (λ n. n.address) addr_cmp) conf.neighbours s.neighbours) in
    keys_apart same_addr (λ n. n.address) (written conf)
    (IsDistinct-IsPermutation same_place (λ n m. flips n.address m.address) conf.neighbours (written conf) (rearranged conf.neighbours) sorted)
