-- Numbers in order, and a search of them by halves.
use Rattle.std.proofs.Common.{◌≡◌, ℕ, zero, suc, ◌+◌, ◌-◌, ◌<◌, ◌≤◌, Bool, true, false, List, length, get_or, refl, sym, ap, ◌∙◌, subst, arith, eq-eqb, ne_eqb, lt-ltb, true≢false, inl, inr}
use Rattle.std.specs.Prelude.{◌==◌, nat_lt, Result, Ok, Err, MatchResult}
use Rattle.std.specs.List.{list_any}
use Rattle.std.specs.Ordering.{is_lt, nat_cmp}
use Rattle.std.specs.List.Sorted.{IsSorted, IsBinarySearchResult}
use Rattle.std.specs.Prelude.{◌⊎◌}
use Rattle.std.proofs.lemmas.Bool.{cases_lt}
use Rattle.std.proofs.lemmas.Option.{get_or_from_slice_get, slice_get-get_or}
use Rattle.std.proofs.lemmas.List.Folds.{list_any_at, list_any_none}
use Rattle.std.proofs.lemmas.List.Sorted.{searched}
use Rattle.std.specs.Result.{is_ok}
use Rattle.conf_sets.specs.Tables.{Rises}

-- an adjacent pair doesn't fall
next_rises : (m n : ℕ) → is_lt (nat_cmp n m) ≡ false → m ≤ n
next_rises m n e = elim (cases_lt n m) [ inl less ↦ absurd (true≢false (sym (below n m (lt-ltb n m less)) ∙ e)) | inr rest ↦ rest ]
  where
    below : (n m : ℕ) → nat_lt n m ≡ true → is_lt (nat_cmp n m) ≡ true
    below n m h = rw h refl

later_rises : (xs : List ℕ) → IsSorted nat_cmp xs → (n i : ℕ) → i + n < length xs → get_or xs i 0 ≤ get_or xs (i + n) 0
later_rises xs sorted zero i within = let at : i + 0 ≡ i = omega arith in subst (λ k. get_or xs i 0 ≤ get_or xs k 0) (sym at) (omega arith)
later_rises xs sorted (suc n) i within =
    let at : i + suc n ≡ i + n + 1 = omega arith in
    let front = later_rises xs sorted n i (omega arith) in
    let step = next_rises (get_or xs (i + n) 0) (get_or xs (i + n + 1) 0) (sorted (i + n) 0 (omega arith) (omega arith)) in
    subst (λ k. get_or xs i 0 ≤ get_or xs k 0) (sym at) (omega arith)

pub rises_from_sorted : (xs : List ℕ) → IsSorted nat_cmp xs → Rises xs
rises_from_sorted xs sorted i j from within =
    let at : i + (j - i) ≡ j = omega arith in
    subst (λ k. get_or xs i 0 ≤ get_or xs k 0) at (later_rises xs sorted (j - i) i (omega arith))

-- the search finds a number exactly where it stands in the list
pub found_is : (xs : List ℕ) (asn : ℕ) (found : Result ℕ ℕ) → Rises xs → IsBinarySearchResult (λ y. nat_cmp y asn) xs found → is_ok found ≡ list_any (λ number. number == asn) xs
found_is xs asn found rising is = decided found (searched xs asn found is rising)
  where
    decided : (found : Result ℕ ℕ) → MatchResult found (λ i. (i < length xs) × (get_or xs i 0 ≡ asn)) (λ i. (i ≤ length xs) × ((k : ℕ) → k < i → get_or xs k 0 < asn) × ((k : ℕ) → i ≤ k → k < length xs → asn < get_or xs k 0)) → is_ok found ≡ list_any (λ number. number == asn) xs
    decided (Ok i) here = sym (list_any_at (λ number. number == asn) xs i 0 here.0 (eq-eqb _ _ here.1))
    decided (Err i) none = sym (list_any_none (λ number. number == asn) xs (λ k d within. ne_eqb _ _ (λ same. other k within (cases_lt k i) (same_default xs k d within ∙ same))))
      where
        same_default : (xs : List ℕ) (k d : ℕ) → k < length xs → get_or xs k 0 ≡ get_or xs k d
        same_default xs k d within = sym (get_or_from_slice_get xs k (get_or xs k 0) d (slice_get-get_or xs k 0 within))

        other : (k : ℕ) → k < length xs → (k < i) ⊎ (i ≤ k) → get_or xs k 0 ≡ asn → ⊥
        other k within (inl below) same = omega (arith, none.1 k below)
        other k within (inr above) same = omega (arith, none.2 k above within)
