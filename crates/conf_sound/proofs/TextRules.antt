-- What stands before the first bytes that are no UTF-8, and behind them.
use lib.Utf8.{scalars, encodes}
use Rattle.std.proofs.Common.{◌≡◌, ◌∙◌, ℕ, zero, suc, ◌+◌, ◌<◌, ◌≤◌, ◌⊎◌, Bool, true, false, cond, ◌&&◌, eqb, List, [], ◌∷◌, ◌++◌, length, take, drop, Option, Some, None, refl, sym, ap, subst, inl, inr, arith, length-append, true≢false}
use Rattle.std.specs.Prelude.{nat_lt, nat_le, is_none}
use Rattle.std.specs.Str.{IsUtf8, is_utf8}
use Rattle.std.specs.Str.Lossy.{utf8_valid_len, valid_len_up_to, utf8_error_len, second_byte_min}
use Rattle.std.proofs.Math.Seq.{take-append-add}
use Rattle.std.proofs.lemmas.Bool.{cases_lt}
use Rattle.std.proofs.lemmas.Bool.Decides.{nat_tests}
use Rattle.std.proofs.lemmas.List.{take-append-drop}
use Rattle.std.proofs.lemmas.Str.{IsUtf8-append, IsUtf8-nil, IsUtf8-from_is_utf8, is_utf8-from_IsUtf8, utf8_valid_len_le}
use Rattle.conf_tree.specs.Joined.{joined, joined_from}
use Rattle.conf_tree.specs.Cuts.{Rules, bad_place}
use Rattle.conf_sound.proofs.Characters.{AreHigh, FirstIsHigh, ascii_front, IsBoth, IsSound, IsEnd, text_both}

-- ---- the longest front that is UTF-8

front_up_to : (bs : List ℕ) (n : ℕ) → IsUtf8 (take (valid_len_up_to bs n) bs)
front_up_to bs zero = IsUtf8-nil
front_up_to bs (suc n) = by (is_utf8 (take (suc n) bs)) refl (front_up_to bs n)
  where
    by : (b : Bool) → is_utf8 (take (suc n) bs) ≡ b → IsUtf8 (take (valid_len_up_to bs n) bs) → IsUtf8 (take (cond b (suc n) (valid_len_up_to bs n)) bs)
    by true e shorter = IsUtf8-from_is_utf8 (take (suc n) bs) e
    by false e shorter = shorter

just : (n m : ℕ) → m ≤ suc n → n < m → m ≡ suc n
just n m h more = omega (arith, more, h)

longest_up_to : (bs : List ℕ) (n m : ℕ) → m ≤ n → IsUtf8 (take m bs) → m ≤ valid_len_up_to bs n
longest_up_to bs zero m h u = omega (arith, h)
longest_up_to bs (suc n) m h u = by (is_utf8 (take (suc n) bs)) refl (λ small. longest_up_to bs n m small u)
  where
    by : (b : Bool) → is_utf8 (take (suc n) bs) ≡ b → (m ≤ n → m ≤ valid_len_up_to bs n) → m ≤ cond b (suc n) (valid_len_up_to bs n)
    by true e shorter = h
    by false e shorter = elim (cases_lt n m) [
      | inl more ↦ absurd (true≢false (sym (is_utf8-from_IsUtf8 (take (suc n) bs) (subst (λ (k : ℕ). IsUtf8 (take k bs)) (just n m h more) u)) ∙ e))
      | inr small ↦ shorter small
    ]

front_utf8 : (bs : List ℕ) → IsUtf8 (take (utf8_valid_len bs) bs)
unfolding utf8_valid_len
front_utf8 bs = front_up_to bs (length bs)

longest : (bs : List ℕ) (m : ℕ) → m ≤ length bs → IsUtf8 (take m bs) → m ≤ utf8_valid_len bs
unfolding utf8_valid_len
longest bs m h u = longest_up_to bs (length bs) m h u

-- ---- the bytes behind it

behind_is_high : (front back : List ℕ) → IsUtf8 front → ((m : ℕ) → m ≤ length (front ++ back) → IsUtf8 (take m (front ++ back)) → m ≤ length front) → FirstIsHigh back
behind_is_high front [] u most = tt
behind_is_high front (b ∷ back) u most = elim (cases_lt b 128) [
  | inl small ↦ absurd (too_long small)
  | inr high ↦ high
]
  where
    longer : b < 128 → IsUtf8 (take (length front + 1) (front ++ b ∷ back))
    longer small = subst IsUtf8 (sym (take-append-add front (b ∷ back) 1)) (IsUtf8-append front (b ∷ []) u (ascii_front b [] small IsUtf8-nil))

    inside : length front + 1 ≤ length (front ++ b ∷ back)
    inside = omega (arith, length-append front (b ∷ back))

    too_long : b < 128 → ⊥
    too_long small = omega (arith, most (length front + 1) inside (longer small))

-- ---- a character that the limit cuts through

abbrev nothing : Option ℕ
nothing = None

two : (r s : Bool) → is_none (cond r (cond s nothing (Some 1)) (Some 1)) ≡ true → s ≡ true
two true true e = refl
two true false e = e
two false s e = absurd (true≢false (sym e))

three : (r s t : Bool) → is_none (cond r (cond s (cond t nothing (Some 2)) (Some 1)) (Some 1)) ≡ true → (s ≡ true) × (t ≡ true)
three true true true e = (refl, refl)
three true true false e = absurd (true≢false (sym e))
three true false t e = absurd (true≢false (sym e))
three false s t e = absurd (true≢false (sym e))

four : (z a b c r s t : Bool) → z ≡ false → a ≡ false → b ≡ false → c ≡ false
    → is_none (cond z nothing (cond r (cond a None (cond s (cond b None (cond t (cond c None (Some 3)) (Some 2))) (Some 1))) (Some 1))) ≡ true → ⊥
four true a b c r s t ez ea eb ec e = true≢false ez
four false true b c r s t ez ea eb ec e = true≢false ea
four false false true c r s t ez ea eb ec e = true≢false eb
four false false false true r s t ez ea eb ec e = true≢false ec
four false false false false true true true ez ea eb ec e = true≢false (sym e)
four false false false false true true false ez ea eb ec e = true≢false (sym e)
four false false false false true false t ez ea eb ec e = true≢false (sym e)
four false false false false false s t ez ea eb ec e = true≢false (sym e)

least_second : (x : ℕ) → 128 ≤ second_byte_min x
least_second x = by (eqb x 224) (eqb x 240)
  where
    by : (p q : Bool) → 128 ≤ cond p 160 (cond q 144 128)
    by true q = omega arith
    by false true = omega arith
    by false false = omega arith

least_third : 128 ≤ 128
least_third = omega arith

in_range_high : (low high b : ℕ) → 128 ≤ low → (nat_le low b && nat_le b high) ≡ true → 128 ≤ b
in_range_high low high b h e = grind (arith, nat_tests)

cut_high : (text : List ℕ) → FirstIsHigh text → is_none (utf8_error_len text) ≡ true → AreHigh text
unfolding utf8_error_len
cut_high [] h e = tt
cut_high (a ∷ []) h e = (h, tt)
cut_high (a ∷ b ∷ []) h e = (h, (in_range_high (second_byte_min a) _ b (least_second a) (two _ _ e), tt))
cut_high (a ∷ b ∷ c ∷ []) h e =
    (h, (in_range_high (second_byte_min a) _ b (least_second a) (three _ _ _ e).0, (in_range_high 128 191 c least_third (three _ _ _ e).1, tt)))
cut_high (a ∷ b ∷ c ∷ d ∷ text) h e =
    absurd (four (eqb (length (a ∷ b ∷ c ∷ d ∷ text)) 0) (nat_lt (length (a ∷ b ∷ c ∷ d ∷ text)) 2) (nat_lt (length (a ∷ b ∷ c ∷ d ∷ text)) 3) (nat_lt (length (a ∷ b ∷ c ∷ d ∷ text)) 4) _ _ _ (grind (arith, nat_tests)) (grind (arith, nat_tests)) (grind (arith, nat_tests)) (grind (arith, nat_tests)) e)

-- ---- the rules of a text

blocked_by : (cut : Bool) (text back : List ℕ) (valid : ℕ) → FirstIsHigh back → (none : Bool) → (none ≡ true → AreHigh back) → (valid ≡ cond (cut && none) (length text) valid) ⊎ AreHigh back
blocked_by true text back valid h true high = inr (high refl)
blocked_by true text back valid h false high = inl refl
blocked_by false text back valid h none high = inl refl

same_length : (n : ℕ) (bs : List ℕ) → n ≤ length bs → length (take n bs) ≡ n
same_length zero bs h = refl
same_length (suc n) [] h = absurd (omega (arith, h))
same_length (suc n) (b ∷ bs) h = ap suc (same_length n bs (omega (arith, h)))

-- the text as far as it is UTF-8, and what stands behind
module _ (cut : Bool) (text : List ℕ) where
  abbrev pub the_rules : Rules
  the_rules = record { strict = true; bad = bad_place cut text; cut = cut }

  back_high : FirstIsHigh (drop (utf8_valid_len text) text)
  back_high =
      let whole : take (utf8_valid_len text) text ++ drop (utf8_valid_len text) text ≡ text = take-append-drop (utf8_valid_len text) text in
      let front_length : length (take (utf8_valid_len text) text) ≡ utf8_valid_len text = same_length (utf8_valid_len text) text (utf8_valid_len_le text) in
      behind_is_high (take (utf8_valid_len text) text) (drop (utf8_valid_len text) text) (front_utf8 text)
      (λ m inside u. subst (λ (n : ℕ). m ≤ n) (sym front_length) (longest text m (subst (λ (xs : List ℕ). m ≤ length xs) whole inside) (subst (λ (xs : List ℕ). IsUtf8 (take m xs)) whole u)))

  back_end : IsEnd the_rules (utf8_valid_len text) (drop (utf8_valid_len text) text)
  back_end = record {
    first = back_high;
    blocked = blocked_by cut text (drop (utf8_valid_len text) text) (utf8_valid_len text) back_high (is_none (utf8_error_len (drop (utf8_valid_len text) text))) (cut_high (drop (utf8_valid_len text) text) back_high);
  }

  spelled : (cs : List ℕ) → scalars cs ≡ true → encodes cs ≡ take (utf8_valid_len text) text → IsBoth the_rules (joined_from false 1 0 text)
  spelled cs s e =
      let whole : encodes cs ++ drop (utf8_valid_len text) text ≡ text = ap (λ (xs : List ℕ). xs ++ drop (utf8_valid_len text) text) e ∙ take-append-drop (utf8_valid_len text) text in
      let front_length : length (encodes cs) ≡ utf8_valid_len text = ap length e ∙ same_length (utf8_valid_len text) text (utf8_valid_len_le text) in
      subst (λ (xs : List ℕ). IsBoth the_rules (joined_from false 1 0 xs)) whole
      (text_both the_rules cs (drop (utf8_valid_len text) text) false 1 0 s (λ f. absurd (true≢false (sym f)))
      (subst (λ (n : ℕ). IsEnd the_rules n (drop (utf8_valid_len text) text)) (sym (omega (arith, front_length))) back_end))

  pub text_sound : IsSound the_rules (joined text)
  text_sound =
      let u : IsUtf8 (take (utf8_valid_len text) text) = front_utf8 text in
      (spelled u.0 u.1.0 u.1.1).1
