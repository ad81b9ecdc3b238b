-- A text is its first part and the parts of what stands behind it.
use Rattle.std.proofs.Common.{◌≡◌, ◌∙◌, ℕ, zero, suc, ◌<◌, ◌≤◌, min, List, [], ◌∷◌, ◌++◌, length, take, drop, refl, ap, sym, subst, arith, append-nil, length-append, inl, inr}
use Rattle.std.proofs.lemmas.Bool.{cases_lt}
use Rattle.std.proofs.lemmas.List.{length-drop, take_all, take_at, drop_at, nil_from_length}
use Rattle.std.proofs.Math.ListN.{drop_of_length-le}
use Rattle.reload_stage.specs.Stages.{parts_in, parts}

-- enough parts are all parts
enough : (size n m : ℕ) (text : List ℕ) → 0 < size → length text ≤ n → length text ≤ m → parts_in size n text ≡ parts_in size m text
unfolding parts_in
enough size zero zero [] s a b = refl
enough size zero (suc m) [] s a b = refl
enough size (suc n) zero [] s a b = refl
enough size (suc n) (suc m) [] s a b = refl
enough size zero m (x ∷ text) s a b = absurd (omega arith)
enough size (suc n) zero (x ∷ text) s a b = absurd (omega arith)
enough size (suc n) (suc m) (x ∷ text) s a b =
    let left = length-drop size (x ∷ text) in
    ap (λ (rest : List (List ℕ)). take size (x ∷ text) ∷ rest) (enough size n m (drop size (x ∷ text)) s (omega (arith, s, a, left)) (omega (arith, s, b, left)))

-- a first part of a text is what `take` gives, and what is behind it what `drop` gives
taken : (size : ℕ) (part rest : List ℕ) → length part ≡ min size (length (part ++ rest)) → take size (part ++ rest) ≡ part
taken size part rest h = let sum = length-append part rest in elim (cases_lt (length (part ++ rest)) size) [
  | inl short ↦
      let none : rest ≡ [] = nil_from_length rest (omega (arith, h, short, sum)) in
      take_all size (part ++ rest) (omega (arith, short)) ∙ ap (λ (behind : List ℕ). part ++ behind) none ∙ append-nil part
  | inr long ↦ take_at part rest size (omega (arith, h, long, sum))
]

dropped : (size : ℕ) (part rest : List ℕ) → length part ≡ min size (length (part ++ rest)) → drop size (part ++ rest) ≡ rest
dropped size part rest h = let sum = length-append part rest in elim (cases_lt (length (part ++ rest)) size) [
  | inl short ↦
      let none : rest ≡ [] = nil_from_length rest (omega (arith, h, short, sum)) in
      drop_of_length-le (part ++ rest) (omega (arith, short)) ∙ sym none
  | inr long ↦ drop_at part rest size (omega (arith, h, long, sum))
]

step_by : (size : ℕ) (text part rest : List ℕ) → 0 < size → 0 < length text → take size text ≡ part → drop size text ≡ rest → parts size text ≡ part ∷ parts size rest
unfolding parts_in
step_by size [] part rest s some t d = absurd (omega (arith, some))
step_by size (x ∷ text) part rest s some t d =
    let left = length-drop size (x ∷ text) in
    let same = enough size (length text) (length (drop size (x ∷ text))) (drop size (x ∷ text)) s (omega (arith, s, left)) (omega arith) in
    ap (λ (others : List (List ℕ)). take size (x ∷ text) ∷ others) same
    ∙ ap (λ (first : List ℕ). first ∷ parts size (drop size (x ∷ text))) t
    ∙ ap (λ (behind : List ℕ). part ∷ parts size behind) d

pub parts_step : (size : ℕ) (text part rest : List ℕ) → 0 < size → 0 < length text → text ≡ part ++ rest → length part ≡ min size (length text) → parts size text ≡ part ∷ parts size rest
parts_step size text part rest s some cut long =
    let long_of : length part ≡ min size (length (part ++ rest)) = long ∙ ap (λ (t : List ℕ). min size (length t)) cut in
    step_by size text part rest s some (ap (take size) cut ∙ taken size part rest long_of) (ap (drop size) cut ∙ dropped size part rest long_of)
