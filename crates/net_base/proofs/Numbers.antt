-- What the readers of numbers compute is what a number's text is.
use Rattle.std.proofs.Common.{◌≡◌, ℕ, zero, suc, ◌-◌, ◌^◌, ◌<◌, ◌≤◌, true, ◌&&◌, not, List, [], ◌∷◌, length, get_or, decimal, Option, Some, None, Result, Ok, Err, refl, sym, ap, ◌∙◌, subst, arith, lt-ltb, le-ltb, ne_eqb, lit<, inl, inr, nat_lt, ◌==◌}
use Rattle.std.proofs.lemmas.Bool.{cases_lt, cases_eq, and_parts, and_from, ltb-true}
use Rattle.std.proofs.lemmas.Bool.Decides.{nat_tests}
use Rattle.std.proofs.lemmas.Option.{none-some}
use Rattle.std.proofs.lemmas.Fmt.{decimal_digit, decimal_is_IsNumeral, decimal-digits_value, first_decimal}
use Rattle.std.proofs.lemmas.Str.Parse.{digit_from_value, numerals_by_value, tells_digits}
use Rattle.std.proofs.NetLemmas.Options.{cond_some}
use Rattle.std.specs.Char.{digit_value, is_ascii_digit}
use Rattle.std.specs.Int.{IsInRange}
use Rattle.std.specs.List.{list_all}
use Rattle.std.specs.Str.Parse.{AllDigits, digits_value}
use Rattle.net_base.specs.declared.number.BadNumber.{BadNumber}
use Rattle.net_base.specs.declared.number.BadNumber.TheVariants.{NotNumber, TooLarge}
use Rattle.net_base.specs.Number.{IsNumberText, ReadsNumber, is_number, number_of, below, read_number}

digit_in_range : (c : ℕ) → is_ascii_digit c ≡ true → (48 ≤ c) × (c ≤ 57)
digit_in_range c h = grind (arith, nat_tests)

digit_from_range : (c : ℕ) → 48 ≤ c → c ≤ 57 → is_ascii_digit c ≡ true
digit_from_range c p q = grind (arith, nat_tests)

digit_value_is : (c : ℕ) → 48 ≤ c → c ≤ 57 → digit_value c ≡ c - 48
digit_value_is c p q = grind (arith, nat_tests)

pub digits_from_test : (ds : List ℕ) → list_all is_ascii_digit ds ≡ true → AllDigits 10 ds
digits_from_test [] h = tt
digits_from_test (d ∷ ds) h =
    let (here, later) = and_parts _ _ h in
    let (low, high) = digit_in_range d here in
    (omega (arith, digit_value_is d low high), digits_from_test ds later)

test_from_digits : (ds : List ℕ) → AllDigits 10 ds → list_all is_ascii_digit ds ≡ true
test_from_digits [] h = refl
test_from_digits (d ∷ ds) h =
    let range : IsInRange 48 57 d = digit_from_value d h.0 in
    and_from _ _ (digit_from_range d range.0 range.1) (test_from_digits ds h.1)

pub digit_at : (ds : List ℕ) (i : ℕ) → list_all is_ascii_digit ds ≡ true → i < length ds → (48 ≤ get_or ds i 0) × (digit_value (get_or ds i 0) ≡ get_or ds i 0 - 48)
digit_at [] i h lt = absurd (omega arith)
digit_at (d ∷ ds) zero h lt =
    let (low, high) = digit_in_range d (and_parts _ _ h).0 in
    (low, digit_value_is d low high)
digit_at (d ∷ ds) (suc i) h lt = digit_at ds i (and_parts _ _ h).1 (omega arith)

-- ---- the test and the fact

no_lead : (len first : ℕ) → 0 < len → not (nat_lt 1 len && (first == 48)) ≡ true → first ≡ 48 → len ≡ 1
no_lead len first some test zero_first = grind (arith, nat_tests)

no_lead_test : (len first : ℕ) → (first ≡ 48 → len ≡ 1) → not (nat_lt 1 len && (first == 48)) ≡ true
no_lead_test len first h = elim (cases_eq first 48) [
  | inl same ↦ rw (le-ltb 1 len (omega (arith, h same))) refl
  | inr other ↦ rw (ne_eqb first 48 other) (grind (arith, nat_tests))
]

pub number_test : (text : List ℕ) (n : ℕ) → IsNumberText text n → is_number text ≡ true
number_test text n h =
    and_from _ _
    (and_from _ _ (lt-ltb 0 (length text) h.0.0.0) (no_lead_test (length text) (get_or text 0 0) h.1))
    (test_from_digits text h.0.0.1)

pub tested_number : (text : List ℕ) → is_number text ≡ true → IsNumberText text (digits_value 10 text)
tested_number text test =
    let (front, digits) = and_parts _ _ test in
    let (some, lead) = and_parts _ _ front in
    let long = ltb-true 0 (length text) some in
    (((long, digits_from_test text digits), refl), no_lead (length text) (get_or text 0 0) long lead)

pub number_of_sound : (text : List ℕ) (n : ℕ) → number_of text ≡ Some n → IsNumberText text n
unfolding number_of
number_of_sound text n e =
    let (test, same) = cond_some _ _ _ e in
    subst (IsNumberText text) same (tested_number text test)

pub number_of_complete : (text : List ℕ) (n : ℕ) → IsNumberText text n → number_of text ≡ Some n
unfolding number_of
number_of_complete text n h =
    rw (number_test text n h) (ap Some h.0.1)

-- ---- printed numbers

pub IsNumberText-decimal : (n : ℕ) → n < 2 ^ 64 → IsNumberText (decimal n) n
IsNumberText-decimal zero fits = (decimal_is_IsNumeral zero fits, λ _. ap length (decimal_digit 0 (lit< tt)))
IsNumberText-decimal (suc n) fits =
    (decimal_is_IsNumeral (suc n) fits, λ zero_first. absurd (omega (arith, first_decimal (suc n) (omega arith) fits)))

pub number_text_is_decimal : (text : List ℕ) (n : ℕ) → IsNumberText text n → n < 2 ^ 64 → text ≡ decimal n
number_text_is_decimal text n h fits =
    let own = numerals_by_value (AllDigits 10) tells_digits in
    sym (decimal-digits_value own text h.0.0.1 h.0.0.0 h.1 (omega (arith, h.0.1))) ∙ ap decimal h.0.1

-- ---- the answer below a limit

pub read_number_reads : (limit : ℕ) (text : List ℕ) → ReadsNumber limit text (read_number limit text)
unfolding read_number
read_number_reads limit text = at (number_of text) refl
  where
    at : (o : Option ℕ) → number_of text ≡ o → ReadsNumber limit text (below limit o)
    at None e = λ n h. none-some n (sym e ∙ number_of_complete text n h)
    at (Some n) e = elim (cases_lt n limit) [
      | inl lt ↦ rw (lt-ltb n limit lt) (number_of_sound text n e, lt)
      | inr ge ↦ rw (le-ltb n limit ge) (n, number_of_sound text n e, ge)
    ]

pub read_number_is : (limit : ℕ) (text : List ℕ) (r : Result ℕ BadNumber) → ReadsNumber limit text r → r ≡ read_number limit text
unfolding read_number
read_number_is limit text (Ok n) h = rw (number_of_complete text n h.0, lt-ltb n limit h.1) refl
read_number_is limit text (Err TooLarge) h = rw (number_of_complete text h.0 h.1, le-ltb h.0 limit h.2) refl
read_number_is limit text (Err NotNumber) h = ap (below limit) (sym (none (number_of text) refl))
  where
    none : (o : Option ℕ) → number_of text ≡ o → o ≡ None
    none None e = refl
    none (Some n) e = absurd (h n (number_of_sound text n e))
