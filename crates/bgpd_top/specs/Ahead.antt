-- The events that a reader of an event file has still to give.
use Rattle.std.specs.Prelude.{ℕ, Bool, true, false, List, Option, None, Some, option_map, if◌then◌else◌}
use Rattle.io_edge.specs.declared.lines.LineFault.{LineFault}
use Rattle.io_edge.specs.FileLines.{lines_in, fault_in}
use Rattle.core_msgs.specs.declared.event.Event.{Event}
use Rattle.core_msgs.specs.declared.event.Event.TheVariants.{Reload}
use Rattle.event_text.specs.Grammar.{FileEnd, Ended, TooLong, BadEvent, FileEvents, events_from, no_more, with_event, line_event, is_reload}
use Rattle.event_text.specs.declared.event.LinesHeld.{LinesHeld}

-- how the events end where no line is bad: with the file, or at a limit
abbrev pub end_of_lines : Option LineFault → FileEnd
end_of_lines None = Ended
end_of_lines (Some fault) = TooLong

-- the events of an event file
abbrev pub events_of_file : List ℕ → FileEvents
events_of_file bytes = events_from None 0 (lines_in 0 bytes) (end_of_lines (fault_in 0 bytes))

-- The events of the lines to come and of the fault behind them, where the source tells both. So many lines stand
-- before them, and in the text of a `reload` this came of it.
abbrev pub events_to_come : Option (List ℕ) → ℕ → Option (List (List ℕ)) → Option (Option LineFault) → Option FileEvents
events_to_come text before None fault = None
events_to_come text before (Some lines) None = None
events_to_come text before (Some lines) (Some fault) = Some (events_from text before lines (end_of_lines fault))

-- the same, with an event's lines in hand
abbrev pub event_then : Option Event → ℕ → Option FileEvents → Option FileEvents
event_then None number rest = option_map (λ _. no_more (BadEvent number)) rest
event_then (Some event) number rest = option_map (with_event event) rest

abbrev pub text_then : Bool → LinesHeld → Option (List (List ℕ)) → Option (Option LineFault) → Option FileEvents
text_then true held lines fault = option_map (with_event (Reload held.text)) (events_to_come None held.last lines fault)
text_then false held lines fault = events_to_come (Some held.text) held.last lines fault

abbrev pub held_then_come : LinesHeld → Option (List (List ℕ)) → Option (Option LineFault) → Option FileEvents
held_then_come held lines fault =
    if is_reload held.head then text_then held.ended held lines fault
    else event_then (line_event held.head) held.first (events_to_come None held.last lines fault)
