-- The state of a reader of lines, and what a call of it does.
use Rattle.std.specs.Prelude.{◌≡◌, ◌≢◌, ◌⊎◌, ℕ, ◌+◌, ◌≤◌, ◌<◌, Bool, true, false, List, [], ◌∷◌, ◌++◌, length, take, drop, Option, None, Some, IfSome, Result, Ok, Err}
use Rattle.std.specs.List.{All}
use Rattle.std.specs.Option.{option_map}
use Rattle.std.specs.Io.KnownBytes.{prepend_known, IsAtEnd}
use Rattle.io_edge.specs.Faults.{Rose}
use Rattle.io_edge.specs.FileLines.{line_limit, file_limit, fault_at, lines_in, fault_in, first_line}
use Rattle.io_edge.specs.declared.lines.LineFault.{LineFault}
use Rattle.io_edge.specs.declared.lines.LineFault.TheVariants.{ReadFault, LineTooLong, FileTooLong, NoMemory}

pub record Reading : Type 0 where
  -- how many bytes of the file stand before the line under way
  pub passed : ℕ
  -- the bytes that were read of the line under way
  pub begun : List ℕ
  -- the bytes that came and aren't read yet
  pub buffered : List ℕ
  -- whether a fault ended the reading
  pub spent : Bool

-- the bytes of the file from the line under way on, where the source tells those that it has left
abbrev pub ahead : Reading → Option (List ℕ) → Option (List ℕ)
ahead reading left = prepend_known (reading.begun ++ reading.buffered) left

-- the line under way, where it came whole with its LF, and nothing was read of it yet
abbrev pub unless_begun : List ℕ → Option (List ℕ) → Option (List ℕ)
unless_begun [] line = line
unless_begun (byte ∷ begun) line = None

abbrev pub whole_line : Reading → Option (List ℕ)
whole_line reading = unless_begun reading.begun (first_line reading.buffered)

-- the lines that are still to be answered, where the source tells
unfoldable pub lines_ahead : Reading → Option (List ℕ) → Option (List (List ℕ))
lines_ahead reading left = option_map (lines_in reading.passed) (ahead reading left)

-- the fault that comes behind them, if one does, where the source tells
unfoldable pub fault_ahead : Reading → Option (List ℕ) → Option (Option LineFault)
fault_ahead reading left = option_map (fault_in reading.passed) (ahead reading left)

-- no line is to be answered any more, and then this comes: a fault, or the end of the file
pub record Ends (lines : Option (List (List ℕ))) (fault : Option (Option LineFault)) (comes : Option LineFault) : Type 0 where
  pub no_line : IfSome lines (λ others. others ≡ [])
  pub then : IfSome fault (λ next. next ≡ comes)

-- the bytes ahead were this line, an LF, and those ahead now; or this line alone, the last one
abbrev pub IsCutOff : Option (List ℕ) → List ℕ → Option (List ℕ) → Type 0
IsCutOff before line now =
    (before ≡ prepend_known (line ++ 10 ∷ []) now) ⊎ ((before ≡ prepend_known line now) × IsAtEnd now × (0 < length line))

-- a line within the limit, without an LF
pub record IsLine (line : List ℕ) : Type 0 where
  pub within : length line ≤ line_limit
  pub one : All (λ byte. byte ≢ 10) line

-- the next line is read, and no more than the file may have
pub record Advances (old new : Reading) (line : List ℕ) : Type 0 where
  pub passed : old.passed + length line ≤ new.passed
  pub further : old.passed < new.passed
  pub within : new.passed ≤ file_limit

-- only a fault of the source raises its count
abbrev pub CountsReads : {T : Type 0} → ℕ → ℕ → Result T LineFault → Type 0
CountsReads old new (Ok _) = new ≡ old
CountsReads old new (Err ReadFault) = Rose old new
CountsReads old new (Err LineTooLong) = new ≡ old
CountsReads old new (Err FileTooLong) = new ≡ old
CountsReads old new (Err NoMemory) = new ≡ old

-- the reading goes on after an answer and after a want of memory, and no other fault
abbrev pub is_end_of_reading : LineFault → Bool
is_end_of_reading NoMemory = false
is_end_of_reading _ = true

-- what holds of the line under way between two calls
pub record IsUnderWay (reading : Reading) : Type 0 where
  pub one : All (λ byte. byte ≢ 10) reading.begun
  pub line : length reading.begun ≤ line_limit
  pub file : reading.passed + length reading.begun ≤ file_limit

-- the line under way ends in the buffered bytes
pub record EndsLine (old new : Reading) (line : List ℕ) : Type 0 where
  pub bytes : old.begun ++ old.buffered ≡ line ++ 10 ∷ new.buffered
  pub begun : new.begun ≡ []
  pub passed : new.passed ≡ old.passed + (length line + 1)
  pub one : All (λ byte. byte ≢ 10) line
  pub good : fault_at old.passed (length line) (length line + 1) ≡ None

-- the line under way has all the buffered bytes, and doesn't end in them
pub record GoesOn (old new : Reading) : Type 0 where
  pub begun : new.begun ≡ old.begun ++ old.buffered
  pub buffered : new.buffered ≡ []
  pub passed : new.passed ≡ old.passed

-- nothing but the flag changes
pub record KeepsBytes (old new : Reading) : Type 0 where
  pub passed : new.passed ≡ old.passed
  pub begun : new.begun ≡ old.begun
  pub buffered : new.buffered ≡ old.buffered

-- the line under way ends in the buffered bytes, and passes a limit
pub record EndsBeyond (old : Reading) (fault : LineFault) : Type 0 where
  pub line : List ℕ
  pub rest : List ℕ
  pub bytes : old.begun ++ old.buffered ≡ line ++ 10 ∷ rest
  pub one : All (λ byte. byte ≢ 10) line
  pub beyond : fault_at old.passed (length line) (length line + 1) ≡ Some fault

-- the line under way goes on behind the buffered bytes, and passes a limit in them
pub record GoesBeyond (old : Reading) (fault : LineFault) : Type 0 where
  pub one : All (λ byte. byte ≢ 10) (old.begun ++ old.buffered)
  pub beyond : fault_at old.passed (length (old.begun ++ old.buffered)) (length (old.begun ++ old.buffered)) ≡ Some fault

-- why a step gives no answer
abbrev pub StepFault : Reading → LineFault → Type 0
StepFault old fault = (fault ≡ NoMemory) ⊎ (EndsBeyond old fault ⊎ GoesBeyond old fault)

-- n bytes behind `passed` others are more than that limit allows
abbrev pub IsBeyond : LineFault → ℕ → ℕ → Type 0
IsBeyond LineTooLong passed n = line_limit < n
IsBeyond FileTooLong passed n = file_limit < passed + n
IsBeyond ReadFault passed n = Unit {0}
IsBeyond NoMemory passed n = Unit {0}

-- the bytes that came of the line under way, and behind it, are more than the limit allows
abbrev pub HoldsTooMany : Reading → LineFault → Type 0
HoldsTooMany reading fault = IsBeyond fault reading.passed (length (reading.begun ++ reading.buffered))

-- whether an answer ends the reading by a fault
abbrev pub is_spent_by : {T : Type 0} → Result T LineFault → Bool
is_spent_by (Ok _) = false
is_spent_by (Err fault) = is_end_of_reading fault

-- the first LF of the bytes stands there
pub record IsFirstNewline (bytes : List ℕ) (at : ℕ) : Type 0 where
  pub within : at < length bytes
  pub before : All (λ byte. byte ≢ 10) (take at bytes)
  pub around : bytes ≡ take at bytes ++ 10 ∷ drop (at + 1) bytes
