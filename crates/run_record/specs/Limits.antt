-- How much has come in, and how many turns a settle may take by that.
use Rattle.std.specs.Prelude.{ℕ, ◌+◌, ◌*◌, ◌-◌, ◌^◌, min, List, [], ◌∷◌, length}
use Rattle.core_msgs.specs.declared.event.Event.{Event}
use Rattle.core_msgs.specs.EventText.{event_text}
use Rattle.run_record.specs.Run.{History}

-- a count that stays at the last value of its type
abbrev pub within_count : ℕ → ℕ
within_count count = min count (2 ^ 128 - 1)

-- one more event and its size
abbrev pub with_size : ℕ → Event → ℕ
with_size size event = within_count (within_count (size + 1) + length (event_text event))

-- the sum of one plus the size of each event
abbrev pub size : History → ℕ
size [] = 0
size (step ∷ before) = with_size (size before) step.event

-- So many turns a settle takes at most, where so much has come in, events and rows of the kernel's lists together.
abbrev pub turn_limit : ℕ → ℕ
turn_limit size = within_count (4294967296 * (size + 1) * (size + 1) * (size + 1))
