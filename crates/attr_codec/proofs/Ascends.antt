-- Items that are put in order are in order, each once.
use Rattle.std.proofs.Common.{◌≡◌, ◌∙◌, List, [], ◌∷◌, fold, refl, ap}
use Rattle.std.specs.List.{AllByRecursion}
use Rattle.std.specs.List.Sorted.{IsStrictlySortedBy}
use Rattle.std.specs.declared.cmp.Ordering.{Ordering}
use Rattle.std.specs.declared.cmp.Ordering.TheVariants.{Less, Equal, Greater}
use Rattle.std.specs.Ordering.{match_ordering, ordering_reverse}
use Rattle.std.specs.Cmp.{IsTotalOrder}
use Rattle.std.specs.BTreeSet.{insert_key}
use Rattle.attr_codec.specs.Ascending.{ascending}

pub none_sorted : {X : Type 0} (cmp : X → X → Ordering) → IsStrictlySortedBy cmp []
unfolding IsStrictlySortedBy
none_sorted cmp = tt

module _ {X : Type 0} (cmp : X → X → Ordering) (order : IsTotalOrder cmp) where
  inserted_all : (P : X → Type 0) (k : X) (xs : List X) → P k → AllByRecursion P xs → AllByRecursion P (insert_key cmp xs k)
  inserted_all P k [] p all = (p, tt)
  inserted_all P k (x ∷ xs) p all = by (cmp k x) (inserted_all P k xs p all.1)
    where
      by : (o : Ordering) → AllByRecursion P (insert_key cmp xs k) → AllByRecursion P (match_ordering o (k ∷ x ∷ xs) (x ∷ xs) (x ∷ insert_key cmp xs k))
      by Less rest = (p, all)
      by Equal rest = all
      by Greater rest = (all.0, rest)

  all_above : (k x : X) (xs : List X) → cmp k x ≡ Less → AllByRecursion (λ y. cmp x y ≡ Less) xs → AllByRecursion (λ y. cmp k y ≡ Less) xs
  all_above k x [] e above = tt
  all_above k x (y ∷ ys) e above = (order.trans k x y e above.0, all_above k x ys e above.1)

  inserted_by : (k x : X) (xs : List X) → IsStrictlySortedBy cmp (x ∷ xs) → IsStrictlySortedBy cmp (insert_key cmp xs k) → (o : Ordering) → cmp k x ≡ o → IsStrictlySortedBy cmp (match_ordering o (k ∷ x ∷ xs) (x ∷ xs) (x ∷ insert_key cmp xs k))
  unfolding IsStrictlySortedBy
  inserted_by k x xs sorted rest Less e = ((e, all_above k x xs e sorted.0), sorted)
  inserted_by k x xs sorted rest Equal e = sorted
  inserted_by k x xs sorted rest Greater e = (inserted_all (λ y. cmp x y ≡ Less) k xs (order.antisymm x k ∙ ap ordering_reverse e) sorted.0, rest)

  inserted : (k : X) (xs : List X) → IsStrictlySortedBy cmp xs → IsStrictlySortedBy cmp (insert_key cmp xs k)
  unfolding IsStrictlySortedBy
  inserted k [] sorted = (tt, tt)
  inserted k (x ∷ xs) sorted = inserted_by k x xs sorted (inserted k xs sorted.1) (cmp k x) refl

  all_inserted : (done items : List X) → IsStrictlySortedBy cmp done → IsStrictlySortedBy cmp (fold (insert_key cmp) done items)
  all_inserted done [] sorted = sorted
  all_inserted done (x ∷ items) sorted = all_inserted (insert_key cmp done x) items (inserted x done sorted)

  pub ascending_sorted : (items : List X) → IsStrictlySortedBy cmp (ascending cmp items)
  ascending_sorted items = all_inserted [] items (none_sorted cmp)
