use Rattle.std.proofs.Common.{◌≡◌, ◌++◌, map}
use Rattle.session_core.specs.Shows.{summary_row}
use Rattle.session_core.proofs.neighbours.Neighbours.show_summary.Given as goal

abbrev pub invariant-loop-peer : goal.invariant-loop-peer
invariant-loop-peer l =
    (l.done.lines ++ map summary_row l.peer-iterator ≡ l.fn.done.lines ++ map summary_row l.fn.self) × (l.done.frames ≡ l.fn.done.frames)
