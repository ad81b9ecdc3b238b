-- Lists in which each item is below those behind it.
use Rattle.std.proofs.Common.{arith, ◌≡◌, ◌∙◌, ◌+◌, ◌<◌, ◌↔◌, IsTrue, Bool, true, false, List, [], ◌∷◌, get_or, refl, ap}
use Rattle.std.specs.declared.cmp.Ordering.{Ordering}
use Rattle.std.specs.declared.cmp.Ordering.TheVariants.{Less, Equal, Greater}
use Rattle.std.specs.Ordering.{is_lt}
use Rattle.std.specs.Cmp.{IsTotalOrder}
use Rattle.std.specs.List.{IsAllAdjacentAnswer}
use Rattle.std.specs.List.Sorted.{IsStrictlySortedBy}
use Rattle.std.proofs.lemmas.Map.Keys.{sorted_from_all_adjacent, Less-from_sorted}

less_from : (o : Ordering) → true ≡ is_lt o → o ≡ Less
less_from Less e = refl
less_from Equal e = absurd cc
less_from Greater e = absurd cc

-- what is found of each item and the next is so of all
pub ascends : {X : Type 0} {R : X → X → Ordering} → IsTotalOrder R → (xs : List X) (r : Bool) → IsAllAdjacentAnswer (λ x y b. b ≡ is_lt (R x y)) xs r → IsTrue r ↔ IsStrictlySortedBy R xs
unfolding IsStrictlySortedBy
ascends order [] true answer = (λ _. tt, λ _. refl)
ascends {R = R} order (x ∷ xs) true answer =
    (λ _. sorted_from_all_adjacent order (x ∷ xs) x (λ k low. less_from (R (get_or (x ∷ xs) k x) (get_or (x ∷ xs) (k + 1) x)) (answer k x low)), λ _. refl)
ascends order [] false (k, low, at) = absurd (omega (arith, low))
ascends {R = R} order (x ∷ xs) false (k, low, at) = (
  λ t. absurd cc,
  λ sorted.
      let next : k < k + 1 = omega arith in
      let below = Less-from_sorted R (x ∷ xs) k (k + 1) x sorted next low in
      let no : false ≡ true = at x ∙ ap is_lt below in
      absurd cc,
)
