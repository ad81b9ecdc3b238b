-- There are no more groups than statements of groups, and each neighbour is counted once.
use Rattle.std.proofs.Common.{◌≡◌, ◌∙◌, ℕ, ◌+◌, ◌≤◌, true, false, List, [], ◌∷◌, length, map, fold, bytes_eq, Option, Some, None, refl, arith}
use Rattle.std.specs.Prelude.{filter, is_some, not}
use Rattle.std.specs.List.{cons_option}
use Rattle.std.specs.Option.{option_map_or}
use Rattle.std.proofs.lemmas.Slice.Eq.{bytes_eq-Decides}
use Rattle.net_base.specs.declared.addr.Addr.{Addr}
use Rattle.net_base.specs.Order.{addr_cmp}
use Rattle.conf_tree.specs.declared.conf.Conf.{Conf}
use Rattle.conf_tree.specs.declared.draft.NeighbourBlock.{NeighbourBlock}
use Rattle.conf_tree.specs.declared.draft.Statement.{Statement}
use Rattle.conf_tree.specs.declared.draft.Statement.TheVariants as says
use Rattle.conf_tree.specs.declared.draft.StatementLine.{StatementLine}
use Rattle.conf_tree.specs.declared.neighbour.Neighbour.{Neighbour}
use Rattle.conf_tree.specs.Said.{said}
use Rattle.conf_tree.specs.Flat.{Placed, placed_in, placed, neighbour_of, neighbours_of, by_key, text_cmp}
use Rattle.conf_tree.specs.Checks.{group_name_of}
use Rattle.conf_tree.specs.Canonical.{is_alone, is_of_group, with_name, group_names}
use Rattle.conf_tree.specs.Readable.{Each, IfThere, total}
use Rattle.conf_sound.proofs.Lists.{each_map, IsEntry, by_key_form}
use Rattle.conf_tree.proofs.Each.{each_append, each_insert}
use Rattle.conf_sound.proofs.Totals.{one, total_same, total_le, total_le_each, total_both, total_none, total_ones, total_swap, length_filter}
use Rattle.conf_sound.proofs.Sizes.{by_key_size}
use Rattle.conf_sound.proofs.ChoiceSizes.{length_flat_map, length_mapped}
use Rattle.conf_sound.proofs.GroupNames.{IsOnce, names_once}

-- ---- each neighbour is without a group, or in one

one_place : (names : List (List ℕ)) (group : Option (List ℕ)) → IsOnce names → one (not (is_some group)) + total (λ name. one (option_map_or (λ g. bytes_eq g name) group false)) names ≤ 1
one_place names None once = omega (arith, total_none names)
one_place names (Some name) once = omega (arith, once name)

counted_once : (ns : List Neighbour) (names : List (List ℕ)) → IsOnce names → length (filter is_alone ns) + total (λ name. length (filter (is_of_group name) ns)) names ≤ length ns
counted_once ns names once =
    let in_groups : total (λ name. length (filter (is_of_group name) ns)) names ≡ total (λ n. total (λ name. one (is_of_group name n)) names) ns =
    total_same (λ name. length (filter (is_of_group name) ns)) (λ name. total (λ n. one (is_of_group name n)) ns) names (λ name. length_filter (is_of_group name) ns)
    ∙ total_swap (λ name n. one (is_of_group name n)) names ns in
    let both = total_both (λ n. one (is_alone n)) (λ n. total (λ name. one (is_of_group name n)) names) ns in
    let each = total_le (λ n. one (is_alone n) + total (λ name. one (is_of_group name n)) names) (λ n. 1) ns (λ n. one_place names n.group once) in
    omega (arith, in_groups, both, each, length_filter is_alone ns, total_ones ns)

neighbours_size : (conf : Conf) (all : List Placed) → length (neighbours_of conf all) ≤ length all
unfolding neighbours_of
neighbours_size conf all =
    let entry : Placed → Addr × Neighbour = λ n. (n.block.address, neighbour_of conf n) in
    let value : Addr × Neighbour → Neighbour = λ e. e.1 in
    omega (arith, length_mapped value (by_key addr_cmp (map entry all)), by_key_size addr_cmp (map entry all), length_mapped entry all)

placed_size : (lines : List StatementLine) → length (placed lines) ≡ total (λ l. length (placed_in l.statement)) lines
unfolding placed
placed_size lines = length_flat_map (λ l. placed_in l.statement) lines

pub few_neighbours : (conf : Conf) (lines : List StatementLine) → length (filter is_alone (neighbours_of conf (placed lines)))
    + total (λ name. length (filter (is_of_group name) (neighbours_of conf (placed lines)))) (group_names (neighbours_of conf (placed lines))) ≤ total (λ l. length (placed_in l.statement)) lines
few_neighbours conf lines =
    let ns : List Neighbour = neighbours_of conf (placed lines) in
    omega (arith, counted_once ns (group_names ns) (names_once ns), neighbours_size conf (placed lines), placed_size lines)

-- ---- each name of a group is that of a statement

-- the name is one of these
abbrev IsNamed : List (List ℕ) → List ℕ → Type 0
IsNamed names wanted = 1 ≤ total (λ name. one (bytes_eq name wanted)) names

equal_itself : (name : List ℕ) → bytes_eq name name ≡ true
equal_itself name = (bytes_eq-Decides name name).1 refl

each_wider : {A : Type 0} (Is Now : A → Type 0) (xs : List A) → ((x : A) → Is x → Now x) → Each Is xs → Each Now xs
each_wider Is Now [] w h = tt
each_wider Is Now (x ∷ xs) w h = (w x h.0, each_wider Is Now xs w h.1)

each_of : {A B : Type 0} (f : A → B) (Is : B → Type 0) → ((x : A) → Is (f x)) → (xs : List A) → Each Is (map f xs)
each_of f Is w [] = tt
each_of f Is w (x ∷ xs) = (w x, each_of f Is w xs)

-- the neighbour stands in no group, or in one of these
abbrev IsInGroup : List (List ℕ) → Placed → Type 0
IsInGroup names n = IfThere (IsNamed names) n.group

still_named : (name : List ℕ) (names : List (List ℕ)) (group : Option (List ℕ)) → IfThere (IsNamed names) group → IfThere (IsNamed (name ∷ names)) group
still_named name names None h = tt
still_named name names (Some wanted) h = omega (arith, h)

more_names : (name : Option (List ℕ)) (names : List (List ℕ)) (all : List Placed) → Each (IsInGroup names) all → Each (IsInGroup (cons_option name names)) all
more_names None names all h = h
more_names (Some name) names all h = each_wider (IsInGroup names) (IsInGroup (name ∷ names)) all (λ n k. still_named name names n.group k) h

own_name : (s : Statement) (names : List (List ℕ)) → Each (IsInGroup (cons_option (group_name_of s) names)) (placed_in s)
own_name (says.Neighbour own) names = (tt, tt)
own_name (says.Group group) names =
    let in_group : NeighbourBlock → Placed = λ own. record { group = Some group.name; shared = group.options; block = own } in
    let named : IsNamed (group.name ∷ names) group.name = rw (equal_itself group.name) (omega arith) in
    each_of in_group (IsInGroup (group.name ∷ names)) (λ own. named) group.neighbours
own_name _ names = tt

placed_named : (lines : List StatementLine) → Each (IsInGroup (said group_name_of lines)) (placed lines)
unfolding placed
placed_named [] = tt
placed_named (l ∷ lines) =
    let names : List (List ℕ) = said group_name_of lines in
    each_append (IsInGroup (cons_option (group_name_of l.statement) names)) (placed_in l.statement) (placed lines)
    (own_name l.statement names) (more_names (group_name_of l.statement) names (placed lines) (placed_named lines))

module _ (names : List (List ℕ)) where
  abbrev IsMember : Neighbour → Type 0
  IsMember n = IfThere (IsNamed names) n.group

  same_group : (conf : Conf) (n : Placed) → IsInGroup names n → IsMember (neighbour_of conf n)
  unfolding neighbour_of
  same_group conf n h = h

  members_named : (conf : Conf) (all : List Placed) → Each (IsInGroup names) all → Each IsMember (neighbours_of conf all)
  unfolding neighbours_of
  members_named conf all h =
      each_map (IsEntry (λ (a : Addr). Unit {0}) IsMember) IsMember (λ entry. entry.1) _ (λ e k. k.1)
      (by_key_form (λ (a : Addr). Unit {0}) IsMember addr_cmp (map (λ n. (n.block.address, neighbour_of conf n)) all)
      (each_map (IsInGroup names) (IsEntry (λ (a : Addr). Unit {0}) IsMember) (λ n. (n.block.address, neighbour_of conf n)) all (λ n k. (tt, same_group conf n k)) h))

  fold_named : (found : List (List ℕ)) (ns : List Neighbour) → Each (IsNamed names) found → Each IsMember ns → Each (IsNamed names) (fold (λ found n. with_name found n.group) found ns)
  fold_named found [] h k = h
  fold_named found (n ∷ ns) h k = fold_named (with_name found n.group) ns (by n.group k.0) k.1
    where
      by : (group : Option (List ℕ)) → IfThere (IsNamed names) group → Each (IsNamed names) (with_name found group)
      by None here = h
      by (Some name) here = each_insert (IsNamed names) text_cmp found name h here

  names_named : (ns : List Neighbour) → Each IsMember ns → Each (IsNamed names) (group_names ns)
  unfolding group_names
  names_named ns h = fold_named [] ns tt h

  -- names of which none comes twice, each one of these, are no more than these
  no_more : (found : List (List ℕ)) → IsOnce found → Each (IsNamed names) found → length found ≤ length names
  no_more found once h =
      let some = total_le_each (IsNamed names) (λ f. 1) (λ f. total (λ name. one (bytes_eq name f)) names) found (λ f k. k) h in
      let swapped = total_swap (λ f name. one (bytes_eq name f)) found names in
      let each = total_le (λ name. total (λ f. one (bytes_eq name f)) found) (λ name. 1) names once in
      omega (arith, some, swapped, each, total_ones found, total_ones names)

pub few_groups : (conf : Conf) (lines : List StatementLine) → length (group_names (neighbours_of conf (placed lines))) ≤ length (said group_name_of lines)
few_groups conf lines =
    let names : List (List ℕ) = said group_name_of lines in
    let ns : List Neighbour = neighbours_of conf (placed lines) in
    no_more names (group_names ns) (names_once ns) (names_named names ns (members_named names conf (placed lines) (placed_named lines)))
