-- The names of the groups: each once, those and no others that some neighbour has.
use Rattle.std.proofs.Common.{◌≡◌, ◌∙◌, ℕ, Bool, true, false, ◌||◌, List, [], ◌∷◌, fold, Option, Some, None, ◌++◌, append_assoc, refl, sym, ap, subst}
use Rattle.std.specs.Prelude.{bytes_eq}
use Rattle.std.specs.Option.{option_map_or}
use Rattle.std.specs.List.{AllByRecursion, IsDistinct, list_any}
use Rattle.std.specs.BTreeSet.{insert_key}
use Rattle.std.specs.Ordering.{match_ordering}
use Rattle.std.specs.declared.cmp.Ordering.{Ordering}
use Rattle.std.specs.declared.cmp.Ordering.TheVariants.{Less, Equal, Greater}
use Rattle.std.proofs.lemmas.Map.Keys.{IsDistinct-from_sorted}
use Rattle.std.proofs.lemmas.Map.Lookups.{exact_bytes}
use Rattle.std.proofs.lemmas.List.Folds.{list_any-append}
use Rattle.std.proofs.lemmas.Slice.Eq.{bytes_eq-Decides}
use Rattle.conf_tree.proofs.Orders.{text_same}
use Rattle.conf_tree.specs.declared.neighbour.Neighbour.{Neighbour}
use Rattle.conf_tree.specs.Canonical.{with_name, is_alone, is_of_group, group_names}
use Rattle.conf_tree.specs.Flat.{text_cmp}
use Rattle.conf_tree.specs.Readable.{Each, IfThere}
use Rattle.conf_tree.proofs.GroupNames.{names_sorted}
use Rattle.conf_tree.proofs.Each.{each_insert}
use Rattle.conf_back.proofs.NamesBack.{same_name}

-- ---- a name put in at its place

or_true : (a : Bool) → (a || true) ≡ true
or_true true = refl
or_true false = refl

module _ (test : List ℕ → Bool) where
  stays : (names : List (List ℕ)) (name : List ℕ) → list_any test names ≡ true → list_any test (insert_key text_cmp names name) ≡ true
  stays [] name found = absurd (cc)
  stays (x ∷ names) name found = by (text_cmp name x) (either (test x) found (stays names name))
    where
      either : (b : Bool) → (b || list_any test names) ≡ true → (list_any test names ≡ true → list_any test (insert_key text_cmp names name) ≡ true) → (b || list_any test (insert_key text_cmp names name)) ≡ true
      either true found behind = refl
      either false found behind = behind found

      by : (r : Ordering) → (test x || list_any test (insert_key text_cmp names name)) ≡ true
          → list_any test (match_ordering r (name ∷ x ∷ names) (x ∷ names) (x ∷ insert_key text_cmp names name)) ≡ true
      by Less later = rw found (or_true (test name))
      by Equal later = found
      by Greater later = later

  goes_in : (names : List (List ℕ)) (name : List ℕ) → test name ≡ true → list_any test (insert_key text_cmp names name) ≡ true
  goes_in [] name passes = rw passes refl
  goes_in (x ∷ names) name passes = by (text_cmp name x) refl (goes_in names name passes)
    where
      by : (r : Ordering) → text_cmp name x ≡ r → list_any test (insert_key text_cmp names name) ≡ true
          → list_any test (match_ordering r (name ∷ x ∷ names) (x ∷ names) (x ∷ insert_key text_cmp names name)) ≡ true
      by Less is behind = rw passes refl
      by Equal is behind = rw (sym (ap test (exact_bytes name x is)) ∙ passes) refl
      by Greater is behind = rw behind (or_true (test x))

  with_stays : (names : List (List ℕ)) (group : Option (List ℕ)) → list_any test names ≡ true → list_any test (with_name names group) ≡ true
  with_stays names None found = found
  with_stays names (Some name) found = stays names name found

  all_stay : (names : List (List ℕ)) (ns : List Neighbour) → list_any test names ≡ true → list_any test (fold (λ names n. with_name names n.group) names ns) ≡ true
  all_stay names [] found = found
  all_stay names (n ∷ ns) found = all_stay (with_name names n.group) ns (with_stays names n.group found)

-- ---- each neighbour stands alone or in one of the groups

covers : (names : List (List ℕ)) (ns : List Neighbour) (n : Neighbour) → (group : Option (List ℕ)) → n.group ≡ group
    → (is_alone n || list_any (λ name. is_of_group name n) (fold (λ names n. with_name names n.group) (with_name names n.group) ns)) ≡ true
covers names ns n None is = rw is refl
covers names ns n (Some g) is = rw is (all_stay (λ name. bytes_eq g name) (with_name names (Some g)) ns (goes_in (λ name. bytes_eq g name) names g (same_name g)))

each_covered : (names : List (List ℕ)) (ns : List Neighbour) → AllByRecursion (λ n. (is_alone n || list_any (λ name. is_of_group name n) (fold (λ names n. with_name names n.group) names ns)) ≡ true) ns
each_covered names [] = tt
each_covered names (n ∷ ns) = (covers names ns n n.group refl, each_covered (with_name names n.group) ns)

pub covered : (ns : List Neighbour) → AllByRecursion (λ n. (is_alone n || list_any (λ name. is_of_group name n) (group_names ns)) ≡ true) ns
unfolding group_names
covered ns = each_covered [] ns

-- ---- a group that some neighbour has is among them

found_group : (name : List ℕ) (names : List (List ℕ)) (ns : List Neighbour) → list_any (is_of_group name) ns ≡ true → list_any (bytes_eq name) (fold (λ names n. with_name names n.group) names ns) ≡ true
found_group name names [] found = absurd (cc)
found_group name names (n ∷ ns) found = by n.group found (found_group name (with_name names n.group) ns)
  where
    later : Option (List ℕ) → List (List ℕ)
    later group = fold (λ names n. with_name names n.group) (with_name names group) ns

    here : (g : List ℕ) (b : Bool) → bytes_eq g name ≡ b → (b || list_any (is_of_group name) ns) ≡ true → (list_any (is_of_group name) ns ≡ true → list_any (bytes_eq name) (later (Some g)) ≡ true) → list_any (bytes_eq name) (later (Some g)) ≡ true
    here g true is found behind = all_stay (bytes_eq name) (with_name names (Some g)) ns (goes_in (bytes_eq name) names g (ap (bytes_eq name) ((bytes_eq-Decides g name).0 is) ∙ same_name name))
    here g false is found behind = behind found

    by : (group : Option (List ℕ)) → (option_map_or (λ g. bytes_eq g name) group false || list_any (is_of_group name) ns) ≡ true → (list_any (is_of_group name) ns ≡ true → list_any (bytes_eq name) (later group) ≡ true) → list_any (bytes_eq name) (later group) ≡ true
    by None found behind = behind found
    by (Some g) found behind = here g (bytes_eq g name) refl found behind

pub group_there : (name : List ℕ) (ns : List Neighbour) → list_any (is_of_group name) ns ≡ true → list_any (bytes_eq name) (group_names ns) ≡ true
unfolding group_names
group_there name ns found = found_group name [] ns found

-- ---- each of them some neighbour has

module _ (all : List Neighbour) where
  abbrev HasMember : List ℕ → Type 0
  HasMember name = list_any (is_of_group name) all ≡ true

  each_has : (names : List (List ℕ)) (ns : List Neighbour) → AllByRecursion (λ n. IfThere HasMember n.group) ns → Each HasMember names → Each HasMember (fold (λ names n. with_name names n.group) names ns)
  each_has names [] in_group h = h
  each_has names (n ∷ ns) in_group h = each_has (with_name names n.group) ns in_group.1 (by n.group in_group.0)
    where
      by : (group : Option (List ℕ)) → IfThere HasMember group → Each HasMember (with_name names group)
      by None there = h
      by (Some name) there = each_insert HasMember text_cmp names name h there

-- each neighbour of the second part stands in its own group
own_group : (front ns : List Neighbour) → AllByRecursion (λ n. IfThere (HasMember (front ++ ns)) n.group) ns
own_group front [] = tt
own_group front (n ∷ ns) = (by n.group refl, subst (λ (all : List Neighbour). AllByRecursion (λ n. IfThere (HasMember all) n.group) ns) (append_assoc front (n ∷ []) ns) (own_group (front ++ n ∷ []) ns))
  where
    by : (group : Option (List ℕ)) → n.group ≡ group → IfThere (HasMember (front ++ n ∷ ns)) group
    by None is = tt
    by (Some g) is = list_any-append (is_of_group g) front (n ∷ ns) ∙ rw is (rw (same_name g) (or_true (list_any (is_of_group g) front)))

pub groups_full : (ns : List Neighbour) → Each (λ name. list_any (is_of_group name) ns ≡ true) (group_names ns)
unfolding group_names
groups_full ns = each_has ns [] ns (own_group [] ns) tt

-- ---- they differ

pub groups_differ : (ns : List Neighbour) → IsDistinct bytes_eq (group_names ns)
groups_differ ns =
    subst (λ (same : List ℕ → List ℕ → Bool). IsDistinct same (group_names ns)) text_same (IsDistinct-from_sorted text_cmp (group_names ns) (names_sorted ns))
