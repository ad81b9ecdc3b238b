use Rattle.std.proofs.Common.{◌≡◌, ◌+◌, cond, false, length}
use Rattle.peer_session.specs.Neighbour.{Course, course}
use Rattle.peer_session.specs.Steps.{Handles, goes_on}
use Rattle.peer_session.proofs.neighbour.NeighbourSession.handle_all.Given as goal

-- What the rest leads to is what all leads to, and it ends where nothing is left.
abbrev pub invariant-loop-goes : goal.invariant-loop-goes
invariant-loop-goes l =
    ((last : Course) → Handles l.fn.number l.fn.now (course l.self l.done) last → Handles l.fn.number l.fn.now (course l.fn.self l.fn.done) last)
    × (l.goes ≡ false → goes_on l.self ≡ false)

abbrev pub decreases-loop-goes : goal.decreases-loop-goes
decreases-loop-goes l = length l.self.held + cond l.goes 1 0
