-- An event that came whole wants no read of the source.
use Rattle.std.proofs.Common.{◌≡◌, ◌≢◌, ℕ, Bool, true, false, ◌&&◌, ◌||◌, not, List, Option, None, Some, refl, ap}
use Rattle.io_edge.specs.declared.lines.LineFault.{LineFault}
use Rattle.io_edge.specs.declared.lines.LineFault.TheVariants as line
use Rattle.event_text.specs.Grammar.{is_skipped, is_reload}
use Rattle.event_text.specs.Held.{wants_more}
use Rattle.event_text.specs.declared.event.LinesHeld.{LinesHeld}
use Rattle.bgpd_top.specs.Faults.{of_line}
use Rattle.bgpd_top.specs.Reader.{asks_behind}
use Rattle.bgpd_top.specs.declared.world.WorldFault.TheVariants as world

pub no_read_fault : (cause : LineFault) → cause ≢ line.ReadFault → of_line cause ≢ world.ReadFault
no_read_fault line.ReadFault none same = none refl
no_read_fault line.LineTooLong none same = cc
no_read_fault line.FileTooLong none same = cc
no_read_fault line.NoMemory none same = cc

neither : (a b : Bool) → a || b ≡ false → (a ≡ false) × (b ≡ false)
neither false false e = (refl, refl)
neither false true e = cc
neither true b e = cc

-- the line that came whole is an event of its own
pub asks_no_more : (front : Option (List ℕ)) → asks_behind front ≡ false →
    (first : List ℕ) × (front ≡ Some first) × (is_skipped first ≡ false) × (is_reload first ≡ false)
asks_no_more None e = cc
asks_no_more (Some first) e = let both = neither (is_skipped first) (is_reload first) e in (first, refl, both.0, both.1)

pub wants_no_more : (held : LinesHeld) → is_reload held.head ≡ false → wants_more held ≡ false
wants_no_more held none = ap (λ b. b && not held.ended) none
