-- The bytes that words of a canonical text are made of.
use Rattle.std.proofs.Common.{◌≡◌, ℕ, suc, ◌≤◌, ◌⊎◌, Bool, true, false, ◌&&◌, ◌||◌, List, [], ◌∷◌, ◌++◌, eqb, inl, inr, arith}
use Rattle.std.specs.Prelude.{nat_le}
use Rattle.std.specs.List.{All, list_all}
use Rattle.std.proofs.lemmas.Bool.Decides.{nat_tests}
use Rattle.conf_tree.specs.Joined.{is_lf}
use Rattle.conf_tree.specs.Cuts.{is_blank, is_hash, is_quote, is_mark, is_compare, is_printable}
use Rattle.conf_tree.proofs.Both.{and_first, and_second}

-- printable, and neither a mark, nor a quote, a comment sign, a backslash or a dollar
pub record IsPlain (b : ℕ) : Type 0 where
  pub lf : is_lf b ≡ false
  pub backslash : eqb b 92 ≡ false
  pub blank : is_blank b ≡ false
  pub hash : is_hash b ≡ false
  pub quote : is_quote b ≡ false
  pub mark : is_mark b ≡ false
  pub compare : is_compare b ≡ false
  pub dollar : eqb b 36 ≡ false
  pub printable : is_printable b ≡ true

-- each byte is
abbrev pub ArePlain : List ℕ → Type 0
ArePlain [] = Unit {0}
ArePlain (b ∷ text) = IsPlain b × ArePlain text

-- a byte in one of these ranges: `*` and `+`, `-` to `:`, capitals, letters, or `_`
abbrev pub IsInRanges : ℕ → Type 0
IsInRanges b = ((42 ≤ b) × (b ≤ 43)) ⊎ (((45 ≤ b) × (b ≤ 58)) ⊎ (((65 ≤ b) × (b ≤ 90)) ⊎ (((97 ≤ b) × (b ≤ 122)) ⊎ (b ≡ 95))))

pub plain : (b : ℕ) → IsInRanges b → IsPlain b
plain b h = record {
  lf = grind (arith, nat_tests);
  backslash = grind (arith, nat_tests);
  blank = grind (arith, nat_tests);
  hash = grind (arith, nat_tests);
  quote = grind (arith, nat_tests);
  mark = grind (arith, nat_tests);
  compare = grind (arith, nat_tests);
  dollar = grind (arith, nat_tests);
  printable = grind (arith, nat_tests);
}

pub digit : (b : ℕ) → 48 ≤ b → b ≤ 57 → IsPlain b
digit b low high = plain b (inr (inl (omega arith, omega arith)))

pub both_plain : (front rest : List ℕ) → ArePlain front → ArePlain rest → ArePlain (front ++ rest)
both_plain [] rest p q = q
both_plain (b ∷ front) rest p q = (p.0, both_plain front rest p.1 q)

pub all_plain : (P : ℕ → Type 0) → ((b : ℕ) → P b → IsPlain b) → (text : List ℕ) → All P text → ArePlain text
all_plain P f [] h = tt
all_plain P f (b ∷ text) h = (f b (h 0 0 (omega arith)), all_plain P f text (λ k d below. h (suc k) d (omega arith)))

-- the same as a test, which computes on the words of the language
abbrev pub is_in_ranges : ℕ → Bool
is_in_ranges b = (nat_le 45 b && nat_le b 58) || ((nat_le 65 b && nat_le b 90) || ((nat_le 97 b && nat_le b 122) || (eqb b 95)))

in_ranges : (b : ℕ) → is_in_ranges b ≡ true → IsInRanges b
in_ranges b h = grind (arith, nat_tests)

pub tested_plain : (text : List ℕ) → list_all is_in_ranges text ≡ true → ArePlain text
tested_plain [] e = tt
tested_plain (b ∷ text) e =
    (plain b (in_ranges b (and_first (is_in_ranges b) (list_all is_in_ranges text) e)), tested_plain text (and_second (is_in_ranges b) (list_all is_in_ranges text) e))
