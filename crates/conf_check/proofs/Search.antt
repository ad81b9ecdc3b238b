-- What a binary search by name finds among entries that are in the order of their names: the place of the first of that name.
use Rattle.std.proofs.Common.{◌≡◌, ◌∙◌, ℕ, ◌+◌, ◌<◌, ◌≤◌, Bool, true, false, cond, List, [], ◌∷◌, length, get_or, Some, None, Ok, Err, Result, refl, sym, ap, arith, nat_lt, true≢false, inl, inr}
use Rattle.std.specs.Prelude.{bytes_eq}
use Rattle.std.specs.List.{position_or_len}
use Rattle.std.specs.Result.{result_ok}
use Rattle.std.specs.declared.cmp.Ordering.{Ordering}
use Rattle.std.specs.declared.cmp.Ordering.TheVariants.{Less, Equal, Greater}
use Rattle.std.specs.Ordering.{is_eq, is_lt, on, ordering_reverse}
use Rattle.std.specs.Cmp.Lexicographic.{nat_list_cmp_total}
use Rattle.std.specs.List.Sorted.{IsStrictlySortedBy, IsBinarySearchResult, IsSearchInRange, IsSortedBy}
use Rattle.std.proofs.lemmas.Bool.{cases_lt, lt-ltb, le-ltb}
use Rattle.std.proofs.lemmas.List.Sorted.{searchable_from_sorted}
use Rattle.std.proofs.lemmas.List.Sums.{position_or_len_is}
use Rattle.std.proofs.lemmas.Map.Keys.{Less-from_sorted}
use Rattle.std.proofs.lemmas.Map.Text.{is_eq-slice_cmp}
use Rattle.std.proofs.lemmas.Slice.Eq.{bytes_eq-Decides}
use Rattle.conf_tree.specs.Flat.{text_cmp, place_of}

-- texts that compare equal are one
text_equal : (a b : List ℕ) → text_cmp a b ≡ Equal → a ≡ b
text_equal a b e = (bytes_eq-Decides a b).0 (sym (is_eq-slice_cmp a b) ∙ ap is_eq e)

-- texts of which one is below the other are two
not_same : (a b : List ℕ) (r : Ordering) → text_cmp a b ≡ r → is_eq r ≡ false → bytes_eq b a ≡ false
not_same a b r e other = by (bytes_eq b a) refl
  where
    by : (t : Bool) → bytes_eq b a ≡ t → t ≡ false
    by true is = absurd (true≢false (
        sym ((bytes_eq-Decides a b).1 (sym ((bytes_eq-Decides b a).0 is)))
        ∙ sym (is_eq-slice_cmp a b) ∙ ap is_eq e ∙ other))
    by false is = refl

module _ {A : Type 0} (name_of : A → List ℕ) where
  -- entries in strict order are in order
  sorted : (xs : List A) → IsStrictlySortedBy (on name_of text_cmp) xs → IsSortedBy (λ a b. is_lt (text_cmp (name_of a) (name_of b))) xs
  sorted xs strict k d low below =
      ap is_lt (nat_list_cmp_total.antisymm (name_of (get_or xs (k + 1) d)) (name_of (get_or xs k d))
      ∙ ap ordering_reverse (Less-from_sorted (on name_of text_cmp) xs k (k + 1) d strict (omega arith) below))

  found : (xs : List A) (name : List ℕ) (i : ℕ) (d : A) → IsStrictlySortedBy (on name_of text_cmp) xs → i < length xs → text_cmp (name_of (get_or xs i d)) name ≡ Equal
      → position_or_len (λ e. bytes_eq name (name_of e)) xs ≡ i
  found xs name i d strict inside here =
      let same : name_of (get_or xs i d) ≡ name = text_equal _ _ here in
      position_or_len_is (λ e. bytes_eq name (name_of e)) xs i d (omega arith)
      (λ k below. not_same (name_of (get_or xs k d)) name Less
      (ap (text_cmp (name_of (get_or xs k d))) (sym same) ∙ Less-from_sorted (on name_of text_cmp) xs k i d strict below inside) refl)
      (λ _. (bytes_eq-Decides name (name_of (get_or xs i d))).1 (sym same))

  missed : (xs : List A) (name : List ℕ) (i : ℕ) (d : A) → i ≤ length xs
      → ((k : ℕ) (e : A) → 0 ≤ k → k < i → text_cmp (name_of (get_or xs k e)) name ≡ Less)
      → ((k : ℕ) (e : A) → i ≤ k → k < length xs → text_cmp (name_of (get_or xs k e)) name ≡ Greater)
      → position_or_len (λ e. bytes_eq name (name_of e)) xs ≡ length xs
  missed xs name i d inside before behind =
      position_or_len_is (λ e. bytes_eq name (name_of e)) xs (length xs) d (omega arith) none (λ h. absurd (omega arith))
    where
      none : (k : ℕ) → k < length xs → bytes_eq name (name_of (get_or xs k d)) ≡ false
      none k h = elim (cases_lt k i) [
        | inl below ↦ not_same (name_of (get_or xs k d)) name Less (before k d (omega arith) below) refl
        | inr above ↦ not_same (name_of (get_or xs k d)) name Greater (behind k d above h) refl
      ]

  -- what a search answers, where the first place has been found
  answer : (xs : List A) (name : List ℕ) (r : Result ℕ ℕ) (d : A) → IsStrictlySortedBy (on name_of text_cmp) xs → IsSearchInRange r (length xs)
      → IsBinarySearchResult (λ e. text_cmp (name_of e) name) xs r → result_ok r ≡ place_of name_of xs name
  answer xs name (Ok i) d strict inside holds =
      let at : position_or_len (λ e. bytes_eq name (name_of e)) xs ≡ i = found xs name i d strict inside (holds d) in
      sym (ap (λ n. cond (nat_lt n (length xs)) (Some n) None) at ∙ ap (λ b. cond b (Some i) None) (lt-ltb i (length xs) inside))
  answer xs name (Err i) d strict inside missing =
      let parts = missing (searchable_from_sorted nat_list_cmp_total name_of xs name (sorted xs strict)) in
      let at : position_or_len (λ e. bytes_eq name (name_of e)) xs ≡ length xs = missed xs name i d inside parts.0 parts.1 in
      sym (ap (λ n. cond (nat_lt n (length xs)) (Some n) None) at
      ∙ ap (λ b. cond b (Some (length xs)) None) (le-ltb (length xs) (length xs) (omega arith)))

  pub searched_place : (xs : List A) (name : List ℕ) (r : Result ℕ ℕ) → IsStrictlySortedBy (on name_of text_cmp) xs → IsSearchInRange r (length xs)
      → IsBinarySearchResult (λ e. text_cmp (name_of e) name) xs r → result_ok r ≡ place_of name_of xs name
  searched_place [] name (Ok i) strict inside holds = absurd (omega (arith, inside))
  searched_place [] name (Err i) strict inside missing = refl
  searched_place (x ∷ xs) name r strict inside found = answer (x ∷ xs) name r x strict inside found
