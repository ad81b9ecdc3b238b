-- The lines of bytes whose front is known.
use Rattle.std.proofs.Common.{◌≡◌, ◌≢◌, ℕ, ◌≤◌, List, [], ◌∷◌, ◌++◌, length, false, eqb, Some, refl, ap, sym, ◌∙◌, arith}
use Rattle.std.specs.List.{All, position_or_len}
use Rattle.std.proofs.lemmas.Bool.{ne_eqb}
use Rattle.std.proofs.lemmas.Bool.Decides.{nat_tests}
use Rattle.std.proofs.lemmas.List.{take_at, take_all, append-nil}
use Rattle.std.proofs.lemmas.List.Elements.{All-head, All-tail}
use Rattle.io_edge.specs.FileLines.{file_limit, is_newline, in_front, lines_with_ends, without_end, fault_at}
use Rattle.io_edge.specs.declared.lines.LineFault.{LineFault}

-- bytes in front of the first of some lines
abbrev pub all_in_front : List ℕ → List (List ℕ) → List (List ℕ)
all_in_front [] lines = lines
all_in_front (byte ∷ front) lines = in_front byte (all_in_front front lines)

-- bytes without an LF go in front of the first line behind them
pub lines_with_ends-append : (front bytes : List ℕ) → All (λ byte. byte ≢ 10) front
    → lines_with_ends (front ++ bytes) ≡ all_in_front front (lines_with_ends bytes)
unfolding lines_with_ends
lines_with_ends-append [] bytes one = refl
lines_with_ends-append (byte ∷ front) bytes one =
    let other : eqb byte 10 ≡ false = ne_eqb byte 10 (All-head (λ b. b ≢ 10) byte front one) in
    rw other (ap (in_front byte) (lines_with_ends-append front bytes (All-tail (λ b. b ≢ 10) byte front one)))

pub all_in_front-cons : (front line : List ℕ) (lines : List (List ℕ)) → all_in_front front (line ∷ lines) ≡ (front ++ line) ∷ lines
all_in_front-cons [] line lines = refl
all_in_front-cons (byte ∷ front) line lines = ap (in_front byte) (all_in_front-cons front line lines)

pub all_in_front-nil : (byte : ℕ) (front : List ℕ) → all_in_front (byte ∷ front) [] ≡ (byte ∷ front) ∷ []
all_in_front-nil byte [] = refl
all_in_front-nil byte (next ∷ front) = ap (in_front byte) (all_in_front-nil next front)

-- a line with its LF, and the lines behind it
pub lines_with_ends-line : (line rest : List ℕ) → All (λ byte. byte ≢ 10) line
    → lines_with_ends (line ++ 10 ∷ rest) ≡ (line ++ 10 ∷ []) ∷ lines_with_ends rest
unfolding lines_with_ends
lines_with_ends-line line rest one =
    lines_with_ends-append line (10 ∷ rest) one ∙ all_in_front-cons line (10 ∷ []) (lines_with_ends rest)

-- a last line without an LF
pub lines_with_ends-last : (byte : ℕ) (front : List ℕ) → All (λ b. b ≢ 10) (byte ∷ front)
    → lines_with_ends (byte ∷ front) ≡ (byte ∷ front) ∷ []
unfolding lines_with_ends
lines_with_ends-last byte front one =
    ap lines_with_ends (sym (append-nil (byte ∷ front))) ∙ lines_with_ends-append (byte ∷ front) [] one ∙ all_in_front-nil byte front

-- how many bytes of a line stand before its LF
pub position-all : (line : List ℕ) → All (λ byte. byte ≢ 10) line → position_or_len is_newline line ≡ length line
position-all [] one = refl
position-all (byte ∷ line) one =
    let other : eqb byte 10 ≡ false = ne_eqb byte 10 (All-head (λ b. b ≢ 10) byte line one) in
    rw other (rw (position-all line (All-tail (λ b. b ≢ 10) byte line one)) (omega arith))

pub position-line : (line rest : List ℕ) → All (λ byte. byte ≢ 10) line → position_or_len is_newline (line ++ 10 ∷ rest) ≡ length line
position-line [] rest one = refl
position-line (byte ∷ line) rest one =
    let other : eqb byte 10 ≡ false = ne_eqb byte 10 (All-head (λ b. b ≢ 10) byte line one) in
    rw other (rw (position-line line rest (All-tail (λ b. b ≢ 10) byte line one)) (omega arith))

-- what goes on behind bytes without an LF has at least those before its LF
pub position-more : (front more : List ℕ) → All (λ byte. byte ≢ 10) front
    → length front ≤ position_or_len is_newline (front ++ more)
position-more [] more one = omega arith
position-more (byte ∷ front) more one =
    let other : eqb byte 10 ≡ false = ne_eqb byte 10 (All-head (λ b. b ≢ 10) byte front one) in
    let later = position-more front more (All-tail (λ b. b ≢ 10) byte front one) in
    rw other (omega (arith, later))

pub without_end-line : (line : List ℕ) → All (λ byte. byte ≢ 10) line → without_end (line ++ 10 ∷ []) ≡ line
without_end-line line one = rw (position-line line [] one) (take_at line (10 ∷ []) (length line) refl)

pub without_end-last : (line : List ℕ) → All (λ byte. byte ≢ 10) line → without_end line ≡ line
without_end-last line one = rw (position-all line one) (take_all (length line) line (omega arith))

-- a line that passes a limit with some bytes passes it with more
pub fault_at-more : (passed text more whole : ℕ) (fault : LineFault) → passed ≤ file_limit → text ≤ more → more ≤ whole
    → fault_at passed text text ≡ Some fault → fault_at passed more whole ≡ Some fault
fault_at-more passed text more whole fault within up up' is = grind (arith, nat_tests, is)
