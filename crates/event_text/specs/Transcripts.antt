-- A transcript is read as the list of its answers.
use Rattle.std.specs.Prelude.{◌≡◌, ◌≢◌, ℕ, Bool, true, false, ◌||◌, ◌==◌, List, [], ◌∷◌, ◌++◌, length, take, codes, bytes_eq, if◌then◌else◌}
use Rattle.std.specs.List.{All}
use Rattle.core_msgs.specs.declared.answer.Answer.{Answer}
use Rattle.event_text.specs.Lines.{line_text}

-- a byte in front of the first line
abbrev pub in_first : ℕ → List (List ℕ) → List (List ℕ)
in_first byte [] = []
in_first byte (line ∷ lines) = (byte ∷ line) ∷ lines

-- the lines of a transcript, each without the LF that ends it
abbrev pub lines_of : List ℕ → List (List ℕ)
lines_of [] = []
lines_of (byte ∷ bytes) = if byte == 10 then [] ∷ lines_of bytes else in_first byte (lines_of bytes)

-- the line begins with the word
abbrev pub begins_with : List ℕ → List ℕ → Bool
begins_with word line = bytes_eq (take (length word) line) word

-- the line ends an answer
abbrev pub ends_answer : List ℕ → Bool
ends_answer line =
    begins_with (codes "ok") line || (begins_with (codes "refused") line || (begins_with (codes "quiet") line || begins_with (codes "pending") line))

-- the lines behind those of an answer that is under way, cut behind each line that ends one
abbrev pub answers_in : List ℕ → List (List ℕ) → List (List ℕ)
answers_in begun [] = []
answers_in begun (line ∷ lines) =
    if ends_answer line then (begun ++ (line ++ 10 ∷ [])) ∷ answers_in [] lines
    else answers_in (begun ++ (line ++ 10 ∷ [])) lines

-- the answers of a transcript, each as its bytes
abbrev pub answers_of : List ℕ → List (List ℕ)
answers_of bytes = answers_in [] (lines_of bytes)

-- the text is one line, and ends an answer or not
pub record IsLineText (ends : Bool) (text : List ℕ) : Type 0 where
  pub one : All (λ byte. byte ≢ 10) text
  pub kind : ends_answer text ≡ ends

-- report lines, and then a line that ends the answer
pub record IsAnswer (answer : Answer) : Type 0 where
  pub reports : All (λ line. IsLineText false (line_text line)) answer.lines
  pub last : IsLineText true (line_text answer.last)
