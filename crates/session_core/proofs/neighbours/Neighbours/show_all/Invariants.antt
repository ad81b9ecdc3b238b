use Rattle.std.proofs.Common.{◌≡◌, ◌++◌, map}
use Rattle.std.specs.Map.{values_of}
use Rattle.session_core.specs.Shows.{neighbour_row}
use Rattle.session_core.proofs.neighbours.Neighbours.show_all.Given as goal

abbrev pub invariant-loop-neighbour : goal.invariant-loop-neighbour
invariant-loop-neighbour l =
    (l.done.lines ++ map neighbour_row l.neighbour-iterator ≡ l.fn.done.lines ++ map neighbour_row (values_of l.fn.self))
    × (l.done.frames ≡ l.fn.done.frames)
