-- The first item of a filtered list is the first that passes.
use Rattle.std.proofs.Common.{◌≡◌, Bool, true, false, ◌&&◌, List, [], ◌∷◌, Option, Some, None, Bor, MatchOption, find, filter, option_copied, refl, sym, ◌∙◌, inl, inr}
use Rattle.std.proofs.lemmas.Bool.{cases_Bool}

-- a range without an end asks for no more than its start
pub from_start : (b : Bool) → (b && true) ≡ b
from_start true = refl
from_start false = refl

module _ {X : Type 0} (test goal : X → Bool) (same : (x : X) → test x ≡ goal x) where
  none_found : (xs : List X) → filter test xs ≡ [] → find goal xs ≡ None
  none_found [] e = refl
  none_found (x ∷ xs) e = elim (cases_Bool (test x)) [
    | inl passes ↦ absurd (some (filter test xs) (rw passes at e))
    | inr fails ↦ rw (sym (same x) ∙ fails) (none_found xs (rw fails at e))
  ]
    where
      some : (ys : List X) → ¬ (x ∷ ys ≡ [])
      some ys h = cc

  one_found : (xs : List X) (y : X) (rest : List X) → filter test xs ≡ y ∷ rest → find goal xs ≡ Some y
  one_found [] y rest e = cc
  one_found (x ∷ xs) y rest e = elim (cases_Bool (test x)) [
    | inl passes ↦ rw (sym (same x) ∙ passes) (first (filter test xs) (rw passes at e))
    | inr fails ↦ rw (sym (same x) ∙ fails) (one_found xs y rest (rw fails at e))
  ]
    where
      first : (ys : List X) → x ∷ ys ≡ y ∷ rest → Some x ≡ Some y
      first ys h = cc

  pub first_found : (r : Option (Bor X)) (rest xs ys : List X) → ys ≡ filter test xs → MatchOption r ((ys ≡ []) × (rest ≡ [])) (λ x. ys ≡ x.now ∷ rest) → option_copied r ≡ find goal xs
  first_found None rest xs ys e h = sym (none_found xs (sym e ∙ h.0))
  first_found (Some x) rest xs ys e h = sym (one_found xs x.now rest (sym e ∙ h))
