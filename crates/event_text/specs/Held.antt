-- What the lines that are held spell.
use Rattle.std.specs.Prelude.{◌≡◌, ℕ, ◌+◌, ◌&&◌, not, Bool, true, List, Result, Ok, Err, if◌then◌else◌}
use Rattle.std.specs.Option.{ok_or}
use Rattle.core_msgs.specs.declared.event.Event.{Event}
use Rattle.core_msgs.specs.declared.event.Event.TheVariants.{Reload}
use Rattle.event_text.specs.declared.event.EventFault.{EventFault}
use Rattle.event_text.specs.declared.event.EventFault.TheVariants.{BadEvent, NoMemory}
use Rattle.event_text.specs.declared.event.LinesHeld.{LinesHeld}
use Rattle.event_text.specs.Grammar.{line_event, is_reload, ends_text, with_line}

-- the event that the lines are, or the number of the line that isn't of the grammar
abbrev pub held_event : LinesHeld → Result Event ℕ
held_event held =
    if is_reload held.head then (if held.ended then Ok (Reload held.text) else Err held.last)
    else ok_or (line_event held.head) held.first

-- what is read is that event, and a bad event stands at that line, unless memory was refused
abbrev pub ReadsEvent : Result Event ℕ → Result Event EventFault → Type 0
ReadsEvent defined (Ok event) = defined ≡ Ok event
ReadsEvent defined (Err (BadEvent line)) = defined ≡ Err line
ReadsEvent defined (Err NoMemory) = Unit {0}

-- the event goes on in the next line
abbrev pub wants_more : LinesHeld → Bool
wants_more held = is_reload held.head && not held.ended

-- with one line more
abbrev pub held_then : LinesHeld → List ℕ → LinesHeld
held_then held line =
    if ends_text line then record held { ended = true; last = held.last + 1 }
    else record held { text = with_line held.text line; last = held.last + 1 }
