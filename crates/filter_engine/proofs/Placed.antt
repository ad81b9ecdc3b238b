-- An item put in its place leaves a list in order.
use Rattle.std.proofs.Common.{◌≡◌, ℕ, Bool, true, false, List, [], ◌∷◌, ◌++◌, refl, sym, eqb-true}
use Rattle.std.specs.Prelude.{filter, nat_lt, ◌==◌, if◌then◌else◌}
use Rattle.std.specs.List.{AllByRecursion}
use Rattle.std.specs.List.Sorted.{IsStrictlySortedBy}
use Rattle.std.specs.Cmp.{IsTotalOrder, nat_cmp_is}
use Rattle.std.specs.Ordering.{nat_cmp, ordering_then}
use Rattle.std.specs.declared.cmp.Ordering.{Ordering}
use Rattle.std.specs.declared.cmp.Ordering.TheVariants.{Less, Equal}
use Rattle.std.proofs.lemmas.Bool.{cond_both, ltb-true}
use Rattle.std.proofs.lemmas.Cmp.{nat_cmp_total}
use Rattle.std.proofs.lemmas.List.Kept.{IsStrictlySortedBy-filter}
use Rattle.std.proofs.lemmas.Map.Keys.{sorted_head, sorted_tail}
use Rattle.attr_model.specs.Valid.{large_cmp}
use Rattle.attr_model.proofs.LargeOrder.{large_total}
use Rattle.filter_engine.specs.Items.{large_below, large_placed, placed}

-- what a test says of each item that passes it
passing : {K : Type 0} (test : K → Bool) (P : K → Type 0) → ((x : K) → test x ≡ true → P x) → (xs : List K) → AllByRecursion P (filter test xs)
passing test P says [] = tt
passing test P says (x ∷ xs) =
    let rest = passing test P says xs in
    cond_both (test x) (x ∷ filter test xs) (filter test xs) (AllByRecursion P) (λ passes. (says x passes, rest)) (λ _. rest)

both : {K : Type 0} (P : K → Type 0) (xs ys : List K) → AllByRecursion P xs → AllByRecursion P ys → AllByRecursion P (xs ++ ys)
both P [] ys front back = back
both P (x ∷ xs) ys front back = (front.0, both P xs ys front.1 back)

first_sorted : {K : Type 0} (cmp : K → K → Ordering) (k : K) (ks : List K) → AllByRecursion (λ y. cmp k y ≡ Less) ks → IsStrictlySortedBy cmp ks → IsStrictlySortedBy cmp (k ∷ ks)
unfolding IsStrictlySortedBy
first_sorted cmp k ks above sorted = (above, sorted)

module _ {K : Type 0} (cmp : K → K → Ordering) (order : IsTotalOrder cmp) where
  -- what is below an item is below all that are above it
  below_those : (x k : K) (ys : List K) → cmp x k ≡ Less → AllByRecursion (λ y. cmp k y ≡ Less) ys → AllByRecursion (λ y. cmp x y ≡ Less) ys
  below_those x k [] less above = tt
  below_those x k (y ∷ ys) less above = (order.trans x k y less above.0, below_those x k ys less above.1)

  joined : (xs : List K) (k : K) (ys : List K) → IsStrictlySortedBy cmp xs → AllByRecursion (λ x. cmp x k ≡ Less) xs → AllByRecursion (λ y. cmp k y ≡ Less) ys → IsStrictlySortedBy cmp ys
      → IsStrictlySortedBy cmp (xs ++ (k ∷ ys))
  joined [] k ys front below above back = first_sorted cmp k ys above back
  joined (x ∷ xs) k ys front below above back =
      first_sorted cmp x (xs ++ (k ∷ ys))
      (both (λ y. cmp x y ≡ Less) xs (k ∷ ys) (sorted_head cmp x xs front) (below.0, below_those x k ys below.0 above))
      (joined xs k ys (sorted_tail cmp x xs front) below.1 above back)

  in_place : (test : K → K → Bool) → ((x y : K) → test x y ≡ true → cmp x y ≡ Less) → (k : K) (list : List K) → IsStrictlySortedBy cmp list
      → IsStrictlySortedBy cmp (filter (λ other. test other k) list ++ (k ∷ filter (λ other. test k other) list))
  in_place test says k list sorted =
      joined (filter (λ other. test other k) list) k (filter (λ other. test k other) list)
      (IsStrictlySortedBy-filter cmp (λ other. test other k) list sorted)
      (passing (λ other. test other k) (λ x. cmp x k ≡ Less) (λ x. says x k) list)
      (passing (λ other. test k other) (λ y. cmp k y ≡ Less) (λ y. says k y) list)
      (IsStrictlySortedBy-filter cmp (λ other. test k other) list sorted)

-- ---- the orders of communities and of large ones

less : (x y : ℕ) → nat_lt x y ≡ true → nat_cmp x y ≡ Less
less x y below = sym (nat_cmp_is x y Less (ltb-true x y below))

equal : (x y : ℕ) → (x == y) ≡ true → nat_cmp x y ≡ Equal
equal x y same = sym (nat_cmp_is x y Equal (eqb-true x y same))

less_large : (x y : ℕ × ℕ × ℕ) → large_below x y ≡ true → large_cmp x y ≡ Less
less_large x y = by (x.0 == y.0) (x.1 == y.1) refl refl
  where
    by : (first second : Bool) → (x.0 == y.0) ≡ first → (x.1 == y.1) ≡ second
        → (if first then (if second then nat_lt x.2 y.2 else nat_lt x.1 y.1) else nat_lt x.0 y.0) ≡ true
        → ordering_then (ordering_then (nat_cmp x.0 y.0) (nat_cmp x.1 y.1)) (nat_cmp x.2 y.2) ≡ Less
    by true true one two below = rw (equal x.0 y.0 one, equal x.1 y.1 two, less x.2 y.2 below) refl
    by true false one two below = rw (equal x.0 y.0 one, less x.1 y.1 below) refl
    by false second one two below = rw (less x.0 y.0 below) refl

pub placed_sorted : (community : ℕ) (list : List ℕ) → IsStrictlySortedBy nat_cmp list → IsStrictlySortedBy nat_cmp (placed community list)
placed_sorted community list sorted = in_place nat_cmp nat_cmp_total nat_lt less community list sorted

pub large_placed_sorted : (community : ℕ × ℕ × ℕ) (list : List (ℕ × ℕ × ℕ)) → IsStrictlySortedBy large_cmp list → IsStrictlySortedBy large_cmp (large_placed community list)
large_placed_sorted community list sorted = in_place large_cmp large_total large_below less_large community list sorted
