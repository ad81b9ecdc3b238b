-- The parts of a text between blanks, and the test for UTF-8.
use Rattle.std.proofs.Common.{◌≡◌, ℕ, ◌+◌, ◌<◌, Bool, true, false, not, List, [], ◌∷◌, length, take, drop, cond, Option, Some, None, refl, sym, ap, ◌∙◌, arith}
use Rattle.std.specs.List.{slice_split, onto_first, position_or_len}
use Rattle.std.specs.Str.{IsUtf8, is_utf8}
use Rattle.std.proofs.lemmas.List.Splits.{slice_split_first, length-slice_split}
use Rattle.std.proofs.lemmas.Str.{IsUtf8-from_is_utf8, is_utf8-from_IsUtf8}
use Rattle.event_text.specs.Grammar.{is_blank, words_of, whole}

none_step : (blank : Bool) (b : ℕ) (text : List ℕ) → is_blank b ≡ blank → (position_or_len is_blank text ≡ length text → slice_split is_blank text ≡ text ∷ []) →
    cond (not blank) (1 + position_or_len is_blank text) 0 ≡ length (b ∷ text) → slice_split is_blank (b ∷ text) ≡ (b ∷ text) ∷ []
none_step true b text e rest n = absurd (omega arith)
none_step false b text e rest n = rw e (ap (onto_first b) (rest (omega arith)))

all_one : (text : List ℕ) → position_or_len is_blank text ≡ length text → slice_split is_blank text ≡ text ∷ []
all_one [] e = refl
all_one (b ∷ text) e = none_step (is_blank b) b text refl (all_one text) e

-- a text without a blank is one part
pub split_none : (text : List ℕ) (n : ℕ) → n ≡ position_or_len is_blank text → n ≡ length text → slice_split is_blank text ≡ text ∷ []
split_none text n e k = all_one text (sym e ∙ k)

-- the first part ends at the first blank
pub split_first : (text : List ℕ) (n : ℕ) → n ≡ position_or_len is_blank text → n < length text →
    slice_split is_blank text ≡ take n text ∷ slice_split is_blank (drop (n + 1) text)
split_first text n e some =
    let within : position_or_len is_blank text < length text = rw (← e) some in
    rw e (slice_split_first is_blank text 0 within ∙ refl)

pub utf8_yes : (text : List ℕ) → IsUtf8 text → is_utf8 text ≡ true
utf8_yes text h = is_utf8-from_IsUtf8 text h

utf8_case : (b : Bool) (text : List ℕ) → is_utf8 text ≡ b → (IsUtf8 text → ⊥) → b ≡ false
utf8_case true text e h = absurd (h (IsUtf8-from_is_utf8 text e))
utf8_case false text e h = refl

pub utf8_no : (text : List ℕ) → (IsUtf8 text → ⊥) → is_utf8 text ≡ false
utf8_no text h = utf8_case (is_utf8 text) text refl h

-- a line has a word at least
pub some_word : (text : List ℕ) → 0 < length (words_of text)
some_word text = omega (arith, length-slice_split is_blank text)

-- what is read is whole exactly where no word is left
pub words_left : {X : Type 0} (x : X) (words : List (List ℕ)) → 0 < length words → whole (Some (x, words)) ≡ None
words_left x [] some = absurd (omega arith)
words_left x (word ∷ words) some = refl

pub no_word_left : {X : Type 0} (x : X) (words : List (List ℕ)) → words ≡ [] → whole (Some (x, words)) ≡ Some x
no_word_left x words none = rw none refl
