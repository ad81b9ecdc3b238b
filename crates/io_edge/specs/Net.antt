-- What the net of the peers does: its events, its connections and its counts.
use Rattle.std.specs.Prelude.{◌≡◌, ℕ, ◌≤◌, Bool, true, false, List, length, Option, Result, Ok, Err, if◌then◌else◌}
use Rattle.std.specs.Ordering.{is_eq}
use Rattle.std.specs.declared.cmp.Ordering.{Ordering}
use Rattle.net_base.specs.declared.addr.Addr.{Addr}
use Rattle.io_edge.specs.Faults.{Rose}
use Rattle.io_edge.specs.Told.{StillTells}
use Rattle.io_edge.specs.declared.net.NetEvent.{NetEvent}
use Rattle.io_edge.specs.declared.net.NetEvent.TheVariants.{Opened, Data, Lost, Words, Nothing}
use Rattle.io_edge.specs.declared.net.NetFault.{NetFault}
use Rattle.io_edge.specs.declared.net.NetFault.TheVariants.{Failed, NoMemory}
use Rattle.io_edge.specs.declared.net.NetCall.{NetCall}
use Rattle.io_edge.specs.declared.net.NetCall.TheVariants.{Next}

-- how many bytes an event may bring
abbrev pub IsPiece : List ℕ → Type 0
IsPiece bytes = (1 ≤ length bytes) × (length bytes ≤ 16384)

abbrev pub BringsPiece : NetEvent → Type 0
BringsPiece (Data _ bytes) = IsPiece bytes
BringsPiece (Words _ bytes) = IsPiece bytes
BringsPiece _ = Unit {0}

-- the connection of that address is there or not, and those of all others are as before
abbrev pub SetsHeld : (Addr → Addr → Ordering) → (Addr → Bool) → (Addr → Bool) → Addr → Bool → Type 0
SetsHeld order old new peer held = (other : Addr) → new other ≡ (if is_eq (order peer other) then held else old other)

-- An event and the connections: one is opened where none was held, brings bytes while it is held, and is lost once.
abbrev pub ChangesHeld : (Addr → Addr → Ordering) → (Addr → Bool) → (Addr → Bool) → NetEvent → Type 0
ChangesHeld order old new (Opened peer _) = (old peer ≡ false) × SetsHeld order old new peer true
ChangesHeld order old new (Data peer _) = (old peer ≡ true) × (new ≡ old)
ChangesHeld order old new (Lost peer) = SetsHeld order old new peer false
ChangesHeld order old new (Words _ _) = new ≡ old
ChangesHeld order old new Nothing = new ≡ old

-- a call for the next event, its answer, and the connections
abbrev pub AnswersNext : (Addr → Addr → Ordering) → (Addr → Bool) → (Addr → Bool) → Result NetEvent NetFault → Type 0
AnswersNext order old new (Ok event) = BringsPiece event × ChangesHeld order old new event
AnswersNext order old new (Err _) = new ≡ old

-- the list of calls after it; a want of memory leaves it as it was
abbrev pub NotesNext : Option (List NetCall) → Option (List NetCall) → Result NetEvent NetFault → Type 0
NotesNext old new (Err NoMemory) = new ≡ old
NotesNext old new (Err Failed) = StillTells old new (Next (Err Failed))
NotesNext old new (Ok event) = StillTells old new (Next (Ok event))

-- only a failure raises the count
abbrev pub CountsNext : {T : Type 0} → ℕ → ℕ → Result T NetFault → Type 0
CountsNext old new (Ok _) = new ≡ old
CountsNext old new (Err Failed) = Rose old new
CountsNext old new (Err NoMemory) = new ≡ old

-- the event can come while these connections are held
abbrev pub IsExpected : (Addr → Bool) → NetEvent → Type 0
IsExpected held (Opened peer _) = held peer ≡ false
IsExpected held (Data peer _) = held peer ≡ true
IsExpected held (Lost _) = Unit {0}
IsExpected held (Words _ _) = Unit {0}
IsExpected held Nothing = Unit {0}
