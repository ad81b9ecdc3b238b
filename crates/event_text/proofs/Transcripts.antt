-- Reading the answers of a transcript.
use Rattle.std.proofs.Common.{◌≡◌, ◌≢◌, ℕ, Bool, true, false, eqb, List, [], ◌∷◌, ◌++◌, map, flat_map, refl, sym, ap, ◌∙◌, append_assoc, append-nil}
use Rattle.std.specs.List.{All}
use Rattle.std.proofs.lemmas.Bool.{ne_eqb}
use Rattle.std.proofs.lemmas.List.Elements.{All-head, All-tail}
use Rattle.core_msgs.specs.declared.answer.Answer.{Answer}
use Rattle.core_msgs.specs.declared.answer.Line.{Line}
use Rattle.event_text.specs.Lines.{line_text, ended_line, answer_text}
use Rattle.event_text.specs.Transcripts.{in_first, lines_of, answers_in, answers_of, ends_answer, IsLineText, IsAnswer}

-- a line with its LF, and the lines behind it
line_first : (line rest : List ℕ) → All (λ byte. byte ≢ 10) line → lines_of (line ++ 10 ∷ rest) ≡ line ∷ lines_of rest
line_first [] rest one = refl
line_first (byte ∷ line) rest one =
    let other : eqb byte 10 ≡ false = ne_eqb byte 10 (All-head (λ b. b ≢ 10) byte line one) in
    rw other (ap (in_first byte) (line_first line rest (All-tail (λ b. b ≢ 10) byte line one)))

ended_first : (line : Line) (rest : List ℕ) → All (λ byte. byte ≢ 10) (line_text line) → lines_of (ended_line line ++ rest) ≡ line_text line ∷ lines_of rest
ended_first line rest one = ap lines_of (append_assoc (line_text line) (10 ∷ []) rest) ∙ line_first (line_text line) rest one

-- a report line goes to the answer under way
report : (begun : List ℕ) (line : Line) (rest : List ℕ) → IsLineText false (line_text line) →
    answers_in begun (lines_of (ended_line line ++ rest)) ≡ answers_in (begun ++ ended_line line) (lines_of rest)
report begun line rest is = rw (ended_first line rest is.one) (rw is.kind refl)

reports : (begun : List ℕ) (lines : List Line) (rest : List ℕ) → All (λ line. IsLineText false (line_text line)) lines →
    answers_in begun (lines_of (flat_map ended_line lines ++ rest)) ≡ answers_in (begun ++ flat_map ended_line lines) (lines_of rest)
reports begun [] rest are = ap (λ bytes. answers_in bytes (lines_of rest)) (sym (append-nil begun))
reports begun (line ∷ lines) rest are =
    ap (λ bytes. answers_in begun (lines_of bytes)) (append_assoc (ended_line line) (flat_map ended_line lines) rest)
    ∙ report begun line (flat_map ended_line lines ++ rest) (All-head (λ l. IsLineText false (line_text l)) line lines are)
    ∙ reports (begun ++ ended_line line) lines rest (All-tail (λ l. IsLineText false (line_text l)) line lines are)
    ∙ ap (λ bytes. answers_in bytes (lines_of rest)) (append_assoc begun (ended_line line) (flat_map ended_line lines))

-- the last line ends it
last : (begun : List ℕ) (line : Line) (rest : List ℕ) → IsLineText true (line_text line) →
    answers_in begun (lines_of (ended_line line ++ rest)) ≡ (begun ++ ended_line line) ∷ answers_in [] (lines_of rest)
last begun line rest is = rw (ended_first line rest is.one) (rw is.kind refl)

answer_first : (answer : Answer) (rest : List ℕ) → IsAnswer answer →
    answers_of (answer_text answer ++ rest) ≡ answer_text answer ∷ answers_of rest
answer_first answer rest is =
    ap answers_of (append_assoc (flat_map ended_line answer.lines) (ended_line answer.last) rest)
    ∙ reports [] answer.lines (ended_line answer.last ++ rest) is.reports
    ∙ last (flat_map ended_line answer.lines) answer.last rest is.last

pub read_back : (answers : List Answer) → All IsAnswer answers → answers_of (flat_map answer_text answers) ≡ map answer_text answers
read_back [] are = refl
read_back (answer ∷ answers) are =
    answer_first answer (flat_map answer_text answers) (All-head IsAnswer answer answers are)
    ∙ ap (λ rest. answer_text answer ∷ rest) (read_back answers (All-tail IsAnswer answer answers are))
