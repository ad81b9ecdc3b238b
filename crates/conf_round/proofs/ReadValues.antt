-- What is printed of a value is read as that value, whatever stands behind it.
use Rattle.std.proofs.Common.{◌≡◌, ◌∙◌, ℕ, suc, ◌+◌, ◌^◌, ◌<◌, ◌≤◌, Bool, true, false, cond, ◌&&◌, eqb, List, [], ◌∷◌, length, codes, decimal, Some, None, Ok, option_and_then, refl, ap, sym, subst, inl, inr, bytes_eq, lit≤, arith}
use Rattle.std.specs.Prelude.{nat_le}
use Rattle.std.specs.List.{position_or_len}
use Rattle.std.specs.Fmt.{digits}
use Rattle.std.specs.Char.{digit_value}
use Rattle.std.proofs.lemmas.Bool.{or_parts}
use Rattle.std.proofs.lemmas.List.{drop_all}
use Rattle.std.proofs.lemmas.Slice.Eq.{bytes_eq-Decides}
use Rattle.std.proofs.lemmas.Bool.Decides.{nat_tests}
use Rattle.net_base.specs.Number.{is_number, number_of}
use Rattle.net_base.specs.Addr.{has_byte}
use Rattle.net_base.proofs.Lacks.{numeral}
use Rattle.net_base.proofs.Numbers.{number_test, number_of_complete, IsNumberText-decimal}
use Rattle.conf_tree.specs.declared.token.Token.{Token}
use Rattle.conf_tree.specs.declared.token.TokenKind.{TokenKind}
use Rattle.conf_tree.specs.declared.token.TokenKind.TheVariants.{Word}
use Rattle.conf_tree.specs.Reading.{text_of, word_is}
use Rattle.conf_tree.specs.Values.{within, in_range, word_passes, number_at, before, past, are_joined, as_number_at, hold_at}
use Rattle.conf_tree.specs.Readable.{IsWithin, IsHold}
use Rattle.conf_round.proofs.Spread.{and_false}

-- a token of a kind with a text, wherever it stands
abbrev pub token : TokenKind → ℕ → ℕ → ℕ → List ℕ → Token
token kind line start end text = record { line = line; start = start; end = end; kind = kind; text = text }

-- ---- numbers

pub is_number_decimal : (n : ℕ) → n < 2 ^ 64 → is_number (decimal n) ≡ true
is_number_decimal n h = number_test (decimal n) n (IsNumberText-decimal n h)

pub number_of_decimal : (n : ℕ) → n < 2 ^ 64 → number_of (decimal n) ≡ Some n
number_of_decimal n h = number_of_complete (decimal n) n (IsNumberText-decimal n h)

between : (low high n : ℕ) → low ≤ n → n ≤ high → (nat_le low n && nat_le n high) ≡ true
between low high n l h = grind (arith, nat_tests)

pub within_decimal : (low high n : ℕ) → IsWithin low high n → high < 2 ^ 64 → within low high (decimal n) ≡ Some n
unfolding within
within_decimal low high n w h =
    ap (option_and_then (λ m. cond (nat_le low m && nat_le m high) (Some m) None)) (number_of_decimal n (omega (arith, w.most, h)))
    ∙ ap (λ (b : Bool). cond b (Some n) None) (between low high n w.least w.most)

-- a number is read as itself
pub number_back : (low high n line start end : ℕ) (rest : List Token) → IsWithin low high n → high < 2 ^ 64 → number_at low high (token Word line start end (decimal n) ∷ rest) ≡ Ok (n, rest)
unfolding number_at word_passes text_of
number_back low high n line start end rest w h = rw (is_number_decimal n (omega (arith, w.most, h))) (ap (in_range (token Word line start end (decimal n) ∷ rest)) (within_decimal low high n w h))

-- ---- texts without a byte

place_step : (byte b : ℕ) (text : List ℕ) → eqb b byte ≡ false → position_or_len (λ c. eqb c byte) text ≡ length text → position_or_len (λ c. eqb c byte) (b ∷ text) ≡ suc (length text)
place_step byte b text e h = rw e (omega (arith, h))

pub no_place : (byte : ℕ) (text : List ℕ) → has_byte byte text ≡ false → position_or_len (λ c. eqb c byte) text ≡ length text
no_place byte [] h = refl
no_place byte (b ∷ text) h =
    let parts = or_parts (eqb b byte) (has_byte byte text) h in
    place_step byte b text parts.0 (no_place byte text parts.1)

pub nothing_past : (byte : ℕ) (text : List ℕ) → has_byte byte text ≡ false → past byte text ≡ []
nothing_past byte text h = drop_all (position_or_len (λ c. eqb c byte) text + 1) text (omega (arith, no_place byte text h))

not_two : (front : Bool) (text : List ℕ) → text ≡ [] → (front && is_number text) ≡ false
not_two front text e = ap (λ (l : List ℕ). front && is_number l) e ∙ and_false front

-- a number isn't two numbers
pub not_joined : (byte : ℕ) (text : List ℕ) → has_byte byte text ≡ false → are_joined byte text ≡ false
unfolding are_joined
not_joined byte text h = not_two (is_number (before byte text)) (past byte text) (nothing_past byte text h)

pub decimal_lacks : (byte n : ℕ) → n < 2 ^ 64 → 10 ≤ digit_value byte → has_byte byte (decimal n) ≡ false
decimal_lacks byte n h far = (numeral byte n h far).lacks

-- an AS number is read as itself
pub as_number_back : (low n line start end : ℕ) (rest : List Token) → IsWithin low 4294967295 n → as_number_at low (token Word line start end (decimal n) ∷ rest) ≡ Ok (n, rest)
unfolding as_number_at word_passes text_of
as_number_back low n line start end rest w =
    rw (not_joined 46 (decimal n) (decimal_lacks 46 n (omega (arith, w.most)) (lit≤ tt))) (number_back low 4294967295 n line start end rest w (omega arith))

-- ---- hold times

other_text : (n m : ℕ) → n < 2 ^ 64 → m < 2 ^ 64 → (n ≡ m → ⊥) → decimal n ≡ decimal m → ⊥
other_text n m hn hm other e = other (some_same n m (sym (number_of_decimal n hn) ∙ ap number_of e ∙ number_of_decimal m hm))
  where
    some_same : (a b : ℕ) → Some a ≡ Some b → a ≡ b
    some_same a b e = cc

pub differs : (front rest : List ℕ) → (front ≡ rest → ⊥) → bytes_eq front rest ≡ false
differs front rest h = differs_by (bytes_eq front rest) refl
  where
    differs_by : (b : Bool) → bytes_eq front rest ≡ b → bytes_eq front rest ≡ false
    differs_by true e = absurd (h ((bytes_eq-Decides front rest).0 e))
    differs_by false e = e

zero_text : decimal 0 ≡ codes "0"
unfolding digits
zero_text = refl

not_zero : (n : ℕ) → n < 2 ^ 64 → 3 ≤ n → bytes_eq (codes "0") (decimal n) ≡ false
not_zero n h some = differs (codes "0") (decimal n) (λ e. other_text 0 n (omega arith) h (λ z. omega (arith, z)) (zero_text ∙ e))

pub hold_back : (n line start end : ℕ) (rest : List Token) → IsHold n → hold_at (token Word line start end (decimal n) ∷ rest) ≡ Ok (n, rest)
unfolding hold_at word_is text_of
hold_back n line start end rest (inl e) =
    subst (λ (m : ℕ). hold_at (token Word line start end (decimal m) ∷ rest) ≡ Ok (m, rest)) (sym e) (ap (λ (text : List ℕ). hold_at (token Word line start end text ∷ rest)) zero_text)
hold_back n line start end rest (inr w) = rw (not_zero n (omega (arith, w.most)) w.least) (number_back 3 65535 n line start end rest w (omega arith))
