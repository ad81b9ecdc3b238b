-- Keys that are put in at their places are in order.
use Rattle.std.proofs.Common.{◌≡◌, ◌∙◌, List, [], ◌∷◌, refl, ap}
use Rattle.std.specs.List.{AllByRecursion}
use Rattle.std.specs.List.Sorted.{IsStrictlySortedBy}
use Rattle.std.specs.Ordering.{match_ordering, ordering_reverse}
use Rattle.std.specs.declared.cmp.Ordering.{Ordering}
use Rattle.std.specs.declared.cmp.Ordering.TheVariants.{Less, Equal, Greater}
use Rattle.std.specs.BTreeSet.{insert_key}
use Rattle.std.specs.Cmp.{IsTotalOrder}

-- a key below the first of some in order is below them all
pub above_first : {K : Type 0} {R : K → K → Ordering} → IsTotalOrder R → (k e : K) (ks : List K) → R k e ≡ Less → AllByRecursion (λ y. R e y ≡ Less) ks → AllByRecursion (λ y. R k y ≡ Less) ks
above_first o k e [] h all = tt
above_first o k e (x ∷ ks) h all = (o.trans k e x h all.0, above_first o k e ks h all.1)

module _ {K : Type 0} (R : K → K → Ordering) where
  -- a key below all others stays below them and a further one
  below_all : (low k : K) (ks : List K) → R low k ≡ Less → AllByRecursion (λ y. R low y ≡ Less) ks → AllByRecursion (λ y. R low y ≡ Less) (insert_key R ks k)
  below_all low k [] h all = (h, tt)
  below_all low k (e ∷ ks) h all = by (R k e) (below_all low k ks h all.1)
    where
      by : (r : Ordering) → AllByRecursion (λ y. R low y ≡ Less) (insert_key R ks k)
          → AllByRecursion (λ y. R low y ≡ Less) (match_ordering r (k ∷ e ∷ ks) (e ∷ ks) (e ∷ insert_key R ks k))
      by Less behind = (h, all)
      by Equal behind = all
      by Greater behind = (all.0, behind)

  pub insert_sorted : IsTotalOrder R → (ks : List K) (k : K) → IsStrictlySortedBy R ks → IsStrictlySortedBy R (insert_key R ks k)
  unfolding IsStrictlySortedBy
  insert_sorted o [] k strict = (tt, tt)
  insert_sorted o (e ∷ ks) k strict = by (R k e) refl (insert_sorted o ks k strict.1)
    where
      by : (r : Ordering) → R k e ≡ r → IsStrictlySortedBy R (insert_key R ks k)
          → IsStrictlySortedBy R (match_ordering r (k ∷ e ∷ ks) (e ∷ ks) (e ∷ insert_key R ks k))
      by Less h behind = ((h, above_first o k e ks h strict.0), strict)
      by Equal h behind = strict
      by Greater h behind = (below_all e k ks (o.antisymm e k ∙ ap ordering_reverse h) strict.0, behind)
