-- The neighbours of a configuration are in the order of their addresses, each of one family with its own address, and some
-- neighbour stands in each group that has one in the text.
use Rattle.std.proofs.Common.{◌≡◌, ◌∙◌, ℕ, Bool, true, false, ◌||◌, List, [], ◌∷◌, ◌++◌, map, flat_map, Option, Some, None, refl, sym, ap, subst, bytes_eq}
use Rattle.std.specs.List.{IsDistinct, list_any, cons_option}
use Rattle.std.specs.List.Sorted.{IsStrictlySortedBy}
use Rattle.std.specs.Map.{keys_of}
use Rattle.std.specs.Option.{option_map_or}
use Rattle.std.specs.declared.cmp.Ordering.TheVariants.{Equal}
use Rattle.std.specs.Ordering.{is_eq, eq_by_cmp, on}
use Rattle.std.specs.Cmp.{eq_by_cmp_equiv}
use Rattle.std.proofs.lemmas.Bool.{not-false}
use Rattle.std.proofs.lemmas.Cmp.{nat_list_eq_equiv}
use Rattle.std.proofs.lemmas.List.Folds.{list_any-append}
use Rattle.net_base.specs.declared.addr.Addr.{Addr}
use Rattle.net_base.specs.declared.conf.ConfKind.TheVariants.{DoubleNeighbour, FamilyMismatch}
use Rattle.net_base.specs.Order.{addr_cmp, same_family}
use Rattle.net_base.proofs.Order.{addr_cmp-total, addr_cmp-Equal}
use Rattle.conf_tree.specs.declared.conf.Conf.{Conf}
use Rattle.conf_tree.specs.declared.draft.GroupBlock.{GroupBlock}
use Rattle.conf_tree.specs.declared.draft.NeighbourBlock.{NeighbourBlock}
use Rattle.conf_tree.specs.declared.draft.Statement.{Statement}
use Rattle.conf_tree.specs.declared.draft.Statement.TheVariants as says
use Rattle.conf_tree.specs.declared.draft.StatementLine.{StatementLine}
use Rattle.conf_tree.specs.declared.neighbour.Neighbour.{Neighbour}
use Rattle.conf_tree.specs.Said.{local_address_of}
use Rattle.conf_tree.specs.Flat.{Placed, placed_in, placed, taken, neighbour_of, neighbours_of, by_key}
use Rattle.conf_tree.specs.Checks.{first_double, same_addr, double_neighbour, fault_at, is_mismatch, family_mismatch, named_if_full, full_group, groups_of}
use Rattle.conf_tree.specs.Canonical.{is_of_group}
use Rattle.conf_tree.proofs.Orders.{derived_addr_order, addr_same}
use Rattle.conf_tree.proofs.Sorted.{all_sorted}
use Rattle.conf_tree.specs.Readable.{Each, IfThere}
use Rattle.conf_tree.specs.Settled.{HasOneFamily}
use Rattle.conf_sound.proofs.Lists.{each_map, IsEntry, by_key_form, map_none, find_none}
use Rattle.conf_sound.proofs.SettledNames.{distinct_names}
use Rattle.conf_sound.proofs.SettledKeys.{any_by_key, by_key_has_key, values_sorted}

addr_equal : eq_by_cmp addr_cmp ≡ same_addr
addr_equal = ap eq_by_cmp (sym derived_addr_order) ∙ addr_same

module _ (conf : Conf) where
  -- the neighbours with their addresses, in the order of the text
  abbrev entries : List Placed → List (Addr × Neighbour)
  entries all = map (λ n. (n.block.address, neighbour_of conf n)) all

  -- ---- order

  have_keys : (all : List Placed) → Each (λ e. e.1.address ≡ e.0) (entries all)
  unfolding neighbour_of
  have_keys [] = tt
  have_keys (n ∷ all) = (refl, have_keys all)

  equal_addresses : (a b : Addr) → addr_cmp a b ≡ Equal → a ≡ b
  equal_addresses a b e = addr_cmp-Equal a b (ap is_eq e)

  pub neighbours_sorted : (all : List Placed) → IsStrictlySortedBy (on (λ n. n.address) addr_cmp) (neighbours_of conf all)
  unfolding neighbours_of IsStrictlySortedBy
  neighbours_sorted all =
      values_sorted addr_cmp equal_addresses (λ n. n.address) (by_key addr_cmp (entries all))
      (by_key_has_key addr_cmp equal_addresses (λ n. n.address) (entries all) (have_keys all))
      (all_sorted addr_cmp addr_cmp-total [] (entries all) tt)

  -- ---- families

  one_family : (n : Placed) → is_mismatch n (taken local_address_of n) ≡ false → HasOneFamily (neighbour_of conf n)
  unfolding neighbour_of
  one_family n e = by (taken local_address_of n) e
    where
      by : (own : Option Addr) → is_mismatch n own ≡ false → IfThere (λ own. same_family own.family n.block.address.family ≡ true) own
      by None e = tt
      by (Some own) e = not-false (same_family own.family n.block.address.family) e

  pub neighbours_of_one_family : (all : List Placed) → family_mismatch all ≡ None → Each HasOneFamily (neighbours_of conf all)
  unfolding neighbours_of family_mismatch
  neighbours_of_one_family all e =
      each_map (IsEntry (λ (a : Addr). Unit {0}) HasOneFamily) HasOneFamily (λ entry. entry.1) _ (λ entry h. h.1)
      (by_key_form (λ (a : Addr). Unit {0}) HasOneFamily addr_cmp (entries all)
      (each_map (λ n. is_mismatch n (taken local_address_of n) ≡ false) (IsEntry (λ (a : Addr). Unit {0}) HasOneFamily) (λ n. (n.block.address, neighbour_of conf n)) all (λ n h. (tt, one_family n h))
      (find_none (λ n. is_mismatch n (taken local_address_of n)) all (map_none (λ n. fault_at FamilyMismatch n.block.line) _ e))))

  -- ---- groups

  addresses : (all : List Placed) → map (λ (e : ℕ × Addr). e.1) (map (λ (n : Placed). (n.block.line, n.block.address)) all) ≡ keys_of (entries all)
  addresses [] = refl
  addresses (n ∷ all) = ap (λ keys. n.block.address ∷ keys) (addresses all)

  addresses_distinct : (all : List Placed) → double_neighbour all ≡ None → IsDistinct (eq_by_cmp addr_cmp) (keys_of (entries all))
  unfolding double_neighbour
  addresses_distinct all e =
      subst (IsDistinct (eq_by_cmp addr_cmp)) (addresses all)
      (distinct_names (eq_by_cmp addr_cmp) (eq_by_cmp_equiv addr_cmp-total) _
      (subst (λ same. first_double same (map (λ (n : Placed). (n.block.line, n.block.address)) all) ≡ None) (sym addr_equal) (map_none (fault_at DoubleNeighbour) _ e)))

  any_of_values : {A B : Type 0} (test : B → Bool) (value : A → B) (xs : List A) → list_any test (map value xs) ≡ list_any (λ x. test (value x)) xs
  any_of_values test value [] = refl
  any_of_values test value (x ∷ xs) = ap (λ b. test (value x) || b) (any_of_values test value xs)

  -- the neighbour stands in this group in the text
  abbrev is_placed_in : List ℕ → Placed → Bool
  is_placed_in name n = option_map_or (λ group. bytes_eq group name) n.group false

  any_entry : (name : List ℕ) (all : List Placed) → list_any (λ e. is_of_group name e.1) (entries all) ≡ list_any (is_placed_in name) all
  unfolding neighbour_of
  any_entry name [] = refl
  any_entry name (n ∷ all) = ap (λ b. is_placed_in name n || b) (any_entry name all)

  any_neighbour : (name : List ℕ) (all : List Placed) → double_neighbour all ≡ None → list_any (is_of_group name) (neighbours_of conf all) ≡ list_any (is_placed_in name) all
  unfolding neighbours_of
  any_neighbour name all e =
      any_of_values (is_of_group name) (λ entry. entry.1) (by_key addr_cmp (entries all))
      ∙ any_by_key addr_cmp (is_of_group name) addr_cmp-total (entries all) (addresses_distinct all e)
      ∙ any_entry name all

  any_behind : {A : Type 0} (test : A → Bool) (xs ys : List A) → list_any test ys ≡ true → list_any test (xs ++ ys) ≡ true
  any_behind test xs ys h = list_any-append test xs ys ∙ by (list_any test xs) (list_any test ys) h
    where
      by : (a b : Bool) → b ≡ true → (a || b) ≡ true
      by true b h = refl
      by false b h = h

  module _ (name : List ℕ) where
    from_first : (b : Bool) (group : List ℕ) (later : Bool) (behind : List Placed) → bytes_eq name group ≡ b → (later ≡ true → list_any (is_placed_in name) behind ≡ true) → (b || later) ≡ true
        → (bytes_eq group name || list_any (is_placed_in name) behind) ≡ true
    from_first true group later behind same rest h = ap (λ b. b || list_any (is_placed_in name) behind) (nat_list_eq_equiv.symm group name ∙ same)
    from_first false group later behind same rest h = ap (λ b. b || list_any (is_placed_in name) behind) (nat_list_eq_equiv.symm group name ∙ same) ∙ rest h

    member_placed : (group : GroupBlock) (owns : List NeighbourBlock) (later : List (List ℕ)) (behind : List Placed) → (list_any (bytes_eq name) later ≡ true → list_any (is_placed_in name) behind ≡ true)
        → list_any (bytes_eq name) (cons_option (named_if_full group.name owns) later) ≡ true
        → list_any (is_placed_in name) (map (λ own. record { group = Some group.name; shared = group.options; block = own }) owns ++ behind) ≡ true
    member_placed group [] later behind rest h = rest h
    member_placed group (own ∷ owns) later behind rest h =
        let others : List Placed = map (λ own. record { group = Some group.name; shared = group.options; block = own }) owns in
        from_first (bytes_eq name group.name) group.name (list_any (bytes_eq name) later) (others ++ behind) refl (λ k. any_behind (is_placed_in name) others behind (rest k)) h

    group_placed : (lines : List StatementLine) → list_any (bytes_eq name) (groups_of lines) ≡ true → list_any (is_placed_in name) (flat_map (λ l. placed_in l.statement) lines) ≡ true
    group_placed [] h = absurd (cc)
    group_placed (l ∷ lines) h = by l.statement (group_placed lines) h
      where
        behind : List Placed
        behind = flat_map (λ l. placed_in l.statement) lines

        by : (s : Statement) → (list_any (bytes_eq name) (groups_of lines) ≡ true → list_any (is_placed_in name) behind ≡ true)
            → list_any (bytes_eq name) (cons_option (full_group s) (groups_of lines)) ≡ true → list_any (is_placed_in name) (placed_in s ++ behind) ≡ true
        by (says.Neighbour own) rest h = rest h
        by (says.Group group) rest h = member_placed group group.neighbours (groups_of lines) behind rest h
        by _ rest h = rest h

    -- a neighbour stands in each group that has one
    pub group_there : (lines : List StatementLine) → double_neighbour (placed lines) ≡ None → list_any (bytes_eq name) (groups_of lines) ≡ true → list_any (is_of_group name) (neighbours_of conf (placed lines)) ≡ true
    unfolding placed
    group_there lines e h = any_neighbour name (placed lines) e ∙ group_placed lines h
