-- The lines of a file of events, and the two limits at which its reading ends with a fault.
use Rattle.std.specs.Prelude.{ℕ, ◌+◌, Bool, ◌&&◌, ◌==◌, nat_lt, nat_le, if◌then◌else◌, List, [], ◌∷◌, length, Option, None, Some}
use Rattle.std.specs.List.{before_first}
use Rattle.std.specs.Option.{option_map, option_map_or, option_or}
use Rattle.io_edge.specs.declared.lines.LineFault.{LineFault}
use Rattle.io_edge.specs.declared.lines.LineFault.TheVariants.{LineTooLong, FileTooLong}

-- how many bytes a line may have, without the LF that ends it
abbrev pub line_limit : ℕ
line_limit = 131072

-- how many bytes a file may have
abbrev pub file_limit : ℕ
file_limit = 268435456

-- LF, which ends a line
abbrev pub is_newline : ℕ → Bool
is_newline byte = byte == 10

-- a byte in front of the first of some lines
abbrev pub in_front : ℕ → List (List ℕ) → List (List ℕ)
in_front byte [] = (byte ∷ []) ∷ []
in_front byte (line ∷ lines) = (byte ∷ line) ∷ lines

-- The lines of some bytes, each with the LF that ends it. The last may lack it, and no bytes are no line.
unfoldable pub lines_with_ends : List ℕ → List (List ℕ)
lines_with_ends [] = []
lines_with_ends (byte ∷ bytes) =
    if is_newline byte then (byte ∷ []) ∷ lines_with_ends bytes else in_front byte (lines_with_ends bytes)

-- the bytes before the first LF, where there is one
unfoldable pub first_line : List ℕ → Option (List ℕ)
first_line [] = None
first_line (byte ∷ bytes) = if is_newline byte then Some [] else option_map (λ line. byte ∷ line) (first_line bytes)

-- a line without the LF that ends it
abbrev pub without_end : List ℕ → List ℕ
without_end line = before_first is_newline line

-- The limit that a line passes, `passed` bytes of the file standing before it: `text` is how many bytes it has
-- without its LF, and `whole` how many with it. Where it passes both, that counts which is passed at the earlier
-- byte, and at one byte the limit of a line.
abbrev pub fault_at : ℕ → ℕ → ℕ → Option LineFault
fault_at passed text whole =
    if nat_lt line_limit text && nat_le (passed + line_limit) file_limit then Some LineTooLong
    else if nat_lt file_limit (passed + whole) then Some FileTooLong
    else None

-- the limit that a line with its LF passes, `passed` bytes of the file standing before it
abbrev pub fault_of : ℕ → List ℕ → Option LineFault
fault_of passed line = fault_at passed (length (without_end line)) (length line)

-- the lines before the first that passes a limit, each without its LF
unfoldable pub good_lines : ℕ → List (List ℕ) → List (List ℕ)
good_lines passed [] = []
good_lines passed (line ∷ lines) =
    option_map_or (λ _. []) (fault_of passed line) (without_end line ∷ good_lines (passed + length line) lines)

-- the limit that the first such line passes
unfoldable pub first_fault : ℕ → List (List ℕ) → Option LineFault
first_fault passed [] = None
first_fault passed (line ∷ lines) =
    option_or (fault_of passed line) (first_fault (passed + length line) lines)

-- The lines that a reader of a file answers, `passed` bytes of it standing before these bytes.
unfoldable pub lines_in : ℕ → List ℕ → List (List ℕ)
lines_in passed bytes = good_lines passed (lines_with_ends bytes)

-- The fault that it answers behind them; without one, the end of the file.
unfoldable pub fault_in : ℕ → List ℕ → Option LineFault
fault_in passed bytes = first_fault passed (lines_with_ends bytes)
