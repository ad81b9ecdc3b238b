-- Bytes that a text does not have.
use Rattle.std.proofs.Common.{◌≡◌, ◌≢◌, ℕ, ◌^◌, ◌<◌, ◌≤◌, false, List, [], ◌∷◌, ◌++◌, decimal, refl, sym, ap, ◌∙◌, arith, ne_eqb}
use Rattle.std.proofs.lemmas.Bool.{or_parts, or_from}
use Rattle.std.proofs.lemmas.List.Folds.{list_any-append}
use Rattle.std.proofs.lemmas.Fmt.{decimal_is_IsNumeral}
use Rattle.std.specs.Char.{digit_value}
use Rattle.std.specs.Str.Parse.{AllDigits}
use Rattle.net_base.specs.Addr.{has_byte}

-- the byte x is not in the text: a record, so that antt reads the text off a goal
pub record Lacks (x : ℕ) (text : List ℕ) : Type 0 where
  pub lacks : has_byte x text ≡ false

pub left : (x : ℕ) (a b : List ℕ) → Lacks x (a ++ b) → Lacks x a
left x a b h = record { lacks = (or_parts _ _ (sym (list_any-append _ a b) ∙ h.lacks)).0 }

pub right : (x : ℕ) (a b : List ℕ) → Lacks x (a ++ b) → Lacks x b
right x a b h = record { lacks = (or_parts _ _ (sym (list_any-append _ a b) ∙ h.lacks)).1 }

pub both : (x : ℕ) (a b : List ℕ) → Lacks x a → Lacks x b → Lacks x (a ++ b)
both x a b h k = record { lacks = list_any-append _ a b ∙ or_from _ _ h.lacks k.lacks }

pub none : (x : ℕ) → Lacks x []
none x = record { lacks = refl }

pub one : (x c : ℕ) → c ≢ x → Lacks x (c ∷ [])
one x c other = record { lacks = or_from _ _ (ne_eqb c x other) refl }

clash : (m n r : ℕ) → m < r → r ≤ n → m ≢ n
clash m n r p q = omega arith

pub digits : (radix x : ℕ) (ds : List ℕ) → AllDigits radix ds → radix ≤ digit_value x → Lacks x ds
digits radix x [] h far = none x
digits radix x (d ∷ ds) h far =
    both x (d ∷ []) ds (one x d (λ same. clash _ _ radix h.0 far (ap digit_value same))) (digits radix x ds h.1 far)

pub numeral : (x n : ℕ) → n < 2 ^ 64 → 10 ≤ digit_value x → Lacks x (decimal n)
numeral x n fits far = digits 10 x (decimal n) (decimal_is_IsNumeral n fits).0.1 far
