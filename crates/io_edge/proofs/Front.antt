-- The first line of some bytes.
use Rattle.std.proofs.Common.{◌≡◌, ◌≢◌, ℕ, ◌<◌, List, [], ◌∷◌, ◌++◌, length, false, eqb, Option, Some, None, option_map, take, drop, ◌+◌, refl, ap, sym, ◌∙◌, arith}
use Rattle.std.specs.List.{All}
use Rattle.std.proofs.lemmas.Bool.{ne_eqb}
use Rattle.std.proofs.lemmas.List.Elements.{All-head, All-tail}
use Rattle.io_edge.specs.FileLines.{first_line}
use Rattle.io_edge.specs.Reading.{Reading, IsFirstNewline, unless_begun, whole_line}

-- bytes without an LF have none
pub first_line-none : (bytes : List ℕ) → All (λ byte. byte ≢ 10) bytes → first_line bytes ≡ None
unfolding first_line
first_line-none [] one = refl
first_line-none (byte ∷ bytes) one =
    let other : eqb byte 10 ≡ false = ne_eqb byte 10 (All-head (λ b. b ≢ 10) byte bytes one) in
    rw other (ap (option_map (λ line. byte ∷ line)) (first_line-none bytes (All-tail (λ b. b ≢ 10) byte bytes one)))

first_line-line : (line rest : List ℕ) → All (λ byte. byte ≢ 10) line → first_line (line ++ 10 ∷ rest) ≡ Some line
unfolding first_line
first_line-line [] rest one = refl
first_line-line (byte ∷ line) rest one =
    let other : eqb byte 10 ≡ false = ne_eqb byte 10 (All-head (λ b. b ≢ 10) byte line one) in
    rw other (ap (option_map (λ front. byte ∷ front)) (first_line-line line rest (All-tail (λ b. b ≢ 10) byte line one)))

-- the first LF ends it
pub first_line-some : (bytes : List ℕ) (at : ℕ) → IsFirstNewline bytes at → first_line bytes ≡ Some (take at bytes)
first_line-some bytes at first = ap first_line first.around ∙ first_line-line (take at bytes) (drop (at + 1) bytes) first.before

-- where there is one, there are bytes
pub first_line-bytes : (bytes line : List ℕ) → first_line bytes ≡ Some line → 0 < length bytes
unfolding first_line
first_line-bytes [] line is = cc
first_line-bytes (byte ∷ bytes) line is = omega arith

not_begun : (begun : List ℕ) (front : Option (List ℕ)) (line : List ℕ) → unless_begun begun front ≡ Some line → (begun ≡ []) × (front ≡ Some line)
not_begun [] front line is = (refl, is)
not_begun (byte ∷ begun) front line is = cc

begun_none : (begun : List ℕ) → unless_begun begun None ≡ None
begun_none [] = refl
begun_none (byte ∷ begun) = refl

nil_of : (bytes : List ℕ) → length bytes ≡ 0 → bytes ≡ []
nil_of [] none = refl
nil_of (byte ∷ bytes) none = absurd (omega (arith, none))

-- where no LF came, no line is whole
pub whole-none : (reading : Reading) → All (λ byte. byte ≢ 10) reading.buffered → whole_line reading ≡ None
whole-none reading one = rw (first_line-none reading.buffered one) (begun_none reading.begun)

-- the first LF ends the line, where nothing was read of it yet
pub whole-some : (reading : Reading) (at : ℕ) → length reading.begun ≡ 0 → IsFirstNewline reading.buffered at → whole_line reading ≡ Some (take at reading.buffered)
whole-some reading at none first = rw (nil_of reading.begun none) (first_line-some reading.buffered at first)

-- the line that ends there is the whole one
pub whole-at : (reading : Reading) (at : ℕ) (line out : List ℕ) → whole_line reading ≡ Some line → IsFirstNewline reading.buffered at →
    out ≡ reading.begun ++ take at reading.buffered → out ≡ line
whole-at reading at line out is first made =
    let both = not_begun reading.begun (first_line reading.buffered) line is in
    let some : Some (take at reading.buffered) ≡ Some line = sym (first_line-some reading.buffered at first) ∙ both.1 in
    let same : take at reading.buffered ≡ line = cc in
    made ∙ rw both.0 same

-- a whole line has bytes that came
pub whole-bytes : (reading : Reading) (line : List ℕ) → whole_line reading ≡ Some line → 0 < length reading.buffered
whole-bytes reading line is = first_line-bytes reading.buffered line (not_begun reading.begun (first_line reading.buffered) line is).1
