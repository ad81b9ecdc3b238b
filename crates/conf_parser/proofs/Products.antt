-- Products that stop at a greatest number.
use Rattle.std.proofs.Common.{◌≡◌, ℕ, zero, suc, ◌*◌, ◌≤◌, ◌<◌, refl, sym, ap, ◌∙◌, arith, inl, inr}
use Rattle.std.specs.Prelude.{min}
use Rattle.std.proofs.lemmas.Bool.{cases_lt}
use Rattle.std.proofs.Math.Nat.{mul-suc, zero-mul, mul_comm}

-- a product that passed the greatest number stays above it
above : (p r most : ℕ) → most < p → min (min p most * suc r) most ≡ min (p * suc r) most
above p r most lt =
    let e : min p most ≡ most = omega (arith, lt) in
    rw e (omega (arith, lt, mul-suc most r, mul-suc p r))

below : (p r most : ℕ) → p ≤ most → min (min p most * suc r) most ≡ min (p * suc r) most
below p r most le =
    let e : min p most ≡ p = omega (arith, le) in
    rw e refl

stopped : (p r most : ℕ) → min (min p most * suc r) most ≡ min (p * suc r) most
stopped p r most = elim (cases_lt most p) [ inl lt ↦ above p r most lt | inr le ↦ below p r most le ]

-- stopping in between changes nothing at the end
pub stops : (f rest most : ℕ) → min (f * min rest most) most ≡ min (f * rest) most
stops zero rest most = ap (λ x. min x most) (zero-mul (min rest most) ∙ sym (zero-mul rest))
stops (suc r) rest most =
    ap (λ x. min x most) (mul_comm (suc r) (min rest most)) ∙ stopped rest r most ∙ ap (λ x. min x most) (mul_comm rest (suc r))
