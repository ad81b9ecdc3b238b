-- What a reader of events has still to give.
use Rattle.std.specs.Prelude.{◌≡◌, ℕ, ◌-◌, Bool, true, false, ◌||◌, List, ◌∷◌, Option, None, Some, option_map, ◌⊎◌}
use Rattle.io_edge.specs.declared.lines.LineFault.{LineFault}
use Rattle.io_edge.specs.declared.lines.LineFault.TheVariants.{LineTooLong, FileTooLong}
use Rattle.io_edge.specs.Reading.{lines_ahead, fault_ahead, whole_line, Ends}
use Rattle.event_text.specs.Grammar.{FileEvents, is_skipped, is_reload}
use Rattle.event_text.specs.declared.event.LinesHeld.{LinesHeld}
use Rattle.bgpd_top.specs.Ahead.{events_to_come, events_of_file, held_then_come}
use Rattle.bgpd_top.specs.declared.replay.EventReader.{EventReader}

-- the lines to come, where the source tells
abbrev pub reader_lines : EventReader → Option (List ℕ) → Option (List (List ℕ))
reader_lines r left = lines_ahead r.lines left

-- the fault behind them
abbrev pub reader_fault : EventReader → Option (List ℕ) → Option (Option LineFault)
reader_fault r left = fault_ahead r.lines left

-- how many lines were read
abbrev pub reader_count : EventReader → ℕ
reader_count r = r.count

abbrev pub reader_passed : EventReader → ℕ
reader_passed r = r.lines.passed

-- a fault ended the reading
abbrev pub is_spent_reader : EventReader → Bool
is_spent_reader r = r.lines.spent

-- the next line, where it came whole already
abbrev pub reader_front : EventReader → Option (List ℕ)
reader_front r = whole_line r.lines

-- whether the next event may want a read of the source: no line of its own came whole, or others follow
abbrev pub asks_behind : Option (List ℕ) → Bool
asks_behind None = true
asks_behind (Some line) = is_skipped line || is_reload line

abbrev pub reader_asks : EventReader → Bool
reader_asks r = asks_behind (reader_front r)

-- the events to come, outside of a configuration's text
abbrev pub to_come : EventReader → Option (List ℕ) → Option FileEvents
to_come r left = events_to_come None (reader_count r) (reader_lines r left) (reader_fault r left)

-- nothing was read
pub record IsFresh (r : EventReader) : Type 0 where
  pub live : is_spent_reader r ≡ false
  pub none : reader_count r ≡ 0
  pub whole : (left : Option (List ℕ)) → to_come r left ≡ option_map events_of_file left

-- no line is to come, and then a limit is passed
abbrev pub EndsTooLong : Option (List (List ℕ)) → Option (Option LineFault) → Type 0
EndsTooLong lines fault = Ends lines fault (Some LineTooLong) ⊎ Ends lines fault (Some FileTooLong)

-- the events to come before a line was taken, which is now the last of the lines read
abbrev pub before_head : List ℕ → ℕ → Option (List (List ℕ)) → Option (Option LineFault) → Option FileEvents
before_head head count lines fault = events_to_come None (count - 1) (option_map (λ others. head ∷ others) lines) fault

-- the events to come, those of the lines held first
abbrev pub come_after : LinesHeld → EventReader → Option (List ℕ) → Option FileEvents
come_after held r left = held_then_come held (reader_lines r left) (reader_fault r left)
