-- Whether bytes are UTF-8, as a test.
use Rattle.std.proofs.Common.{◌≡◌, ℕ, Bool, true, false, List, refl}
use Rattle.std.specs.Str.{IsUtf8, is_utf8}
use Rattle.std.proofs.lemmas.Str.{IsUtf8-from_is_utf8, is_utf8-from_IsUtf8}

pub utf8_yes : (text : List ℕ) → IsUtf8 text → is_utf8 text ≡ true
utf8_yes text h = is_utf8-from_IsUtf8 text h

utf8_case : (b : Bool) (text : List ℕ) → is_utf8 text ≡ b → (IsUtf8 text → ⊥) → b ≡ false
utf8_case true text e h = absurd (h (IsUtf8-from_is_utf8 text e))
utf8_case false text e h = refl

pub utf8_no : (text : List ℕ) → (IsUtf8 text → ⊥) → is_utf8 text ≡ false
utf8_no text h = utf8_case (is_utf8 text) text refl h
