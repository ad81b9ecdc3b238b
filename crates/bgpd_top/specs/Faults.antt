-- How each fault of reading events comes from below.
use Rattle.std.specs.Prelude.{◌≡◌, ℕ, Result, Ok, Err}
use Rattle.io_edge.specs.Faults.{Rose}
use Rattle.io_edge.specs.declared.lines.LineFault.{LineFault}
use Rattle.io_edge.specs.declared.lines.LineFault.TheVariants as line
use Rattle.bgpd_top.specs.declared.world.WorldFault.{WorldFault}
use Rattle.bgpd_top.specs.declared.world.WorldFault.TheVariants as world

abbrev pub of_line : LineFault → WorldFault
of_line line.ReadFault = world.ReadFault
of_line line.LineTooLong = world.TooLong
of_line line.FileTooLong = world.TooLong
of_line line.NoMemory = world.NoMemory

-- only a fault of the source raises its count
abbrev pub CountsWorld : {T : Type 0} → ℕ → ℕ → Result T WorldFault → Type 0
CountsWorld old new (Ok _) = new ≡ old
CountsWorld old new (Err world.ReadFault) = Rose old new
CountsWorld old new (Err world.TooLong) = new ≡ old
CountsWorld old new (Err world.NoMemory) = new ≡ old
CountsWorld old new (Err (world.BadEvent number)) = new ≡ old

-- the fault isn't that of an event's text
abbrev pub IsNoBadEvent : WorldFault → Type 0
IsNoBadEvent (world.BadEvent number) = ⊥
IsNoBadEvent _ = Unit {0}
