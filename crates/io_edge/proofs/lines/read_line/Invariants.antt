use Rattle.std.proofs.Common.{◌≡◌, ◌-◌, ℕ, List, Some, false, length}
use Rattle.io_edge.specs.Reading.{ahead, whole_line}
use Rattle.io_edge.proofs.lines.read_line.Given as goal

abbrev pub invariant-loop-lines : goal.invariant-loop-lines
invariant-loop-lines g l =
    (l.lines.passed ≡ l.initial.lines.passed)
    × (l.lines.spent ≡ false)
    × (ahead l.lines (g.S.Source.left l.source) ≡ ahead l.initial.lines (g.S.Source.left l.initial.source))
    × (g.S.Source.faults l.source ≡ g.S.Source.faults l.initial.source)
    × ((line : List ℕ) → whole_line l.initial.lines ≡ Some line → l.lines ≡ l.initial.lines)

abbrev pub decreases-loop-lines : goal.decreases-loop-lines
decreases-loop-lines g l = 131073 - length l.lines.begun
