-- A list in order stays as it is when its items are put in order.
use Rattle.std.proofs.Common.{◌≡◌, ◌∙◌, List, [], ◌∷◌, ◌++◌, fold, refl, ap, sym, subst, append_assoc, append-nil}
use Rattle.std.specs.List.{AllByRecursion}
use Rattle.std.specs.List.Sorted.{IsStrictlySortedBy}
use Rattle.std.specs.declared.cmp.Ordering.{Ordering}
use Rattle.std.specs.declared.cmp.Ordering.TheVariants.{Less, Greater}
use Rattle.std.specs.Ordering.{ordering_reverse}
use Rattle.std.specs.Cmp.{IsTotalOrder}
use Rattle.std.specs.BTreeSet.{insert_key}
use Rattle.std.proofs.lemmas.Map.Keys.{sorted_head, sorted_tail}
use Rattle.attr_codec.specs.Ascending.{ascending}

module _ {X : Type 0} (cmp : X → X → Ordering) (order : IsTotalOrder cmp) where
  turned : (x y : X) → cmp y x ≡ Less → cmp x y ≡ Greater
  turned x y h = order.antisymm x y ∙ ap ordering_reverse h

  goes_last : (done : List X) (x : X) → AllByRecursion (λ y. cmp y x ≡ Less) done → insert_key cmp done x ≡ done ++ x ∷ []
  goes_last [] x below = refl
  goes_last (y ∷ ys) x below = rw (turned x y below.0) (ap (λ (l : List X). y ∷ l) (goes_last ys x below.1))

  -- what stands behind others is above them
  last_of : (P : X → Type 0) (ys : List X) (x : X) (rest : List X) → AllByRecursion P (ys ++ x ∷ rest) → P x
  last_of P [] x rest all = all.0
  last_of P (y ∷ ys) x rest all = last_of P ys x rest all.1

  above_all : (done : List X) (x : X) (rest : List X) → IsStrictlySortedBy cmp (done ++ x ∷ rest) → AllByRecursion (λ y. cmp y x ≡ Less) done
  above_all [] x rest sorted = tt
  above_all (y ∷ ys) x rest sorted =
      (last_of (λ z. cmp y z ≡ Less) ys x rest (sorted_head cmp y (ys ++ x ∷ rest) sorted), above_all ys x rest (sorted_tail cmp y (ys ++ x ∷ rest) sorted))

  all_last : (done rest : List X) → IsStrictlySortedBy cmp (done ++ rest) → fold (insert_key cmp) done rest ≡ done ++ rest
  all_last done [] sorted = sym (append-nil done)
  all_last done (x ∷ rest) sorted =
      let moved : (done ++ x ∷ []) ++ rest ≡ done ++ x ∷ rest = append_assoc done (x ∷ []) rest in
      ap (λ (l : List X). fold (insert_key cmp) l rest) (goes_last done x (above_all done x rest sorted))
      ∙ all_last (done ++ x ∷ []) rest (subst (IsStrictlySortedBy cmp) (sym moved) sorted) ∙ moved

  pub ascending_same : (xs : List X) → IsStrictlySortedBy cmp xs → ascending cmp xs ≡ xs
  ascending_same xs sorted = all_last [] xs sorted
