use Rattle.std.proofs.Common.{◌≡◌}
use Rattle.std.specs.Slice.Iter.{iter_rest}
use Rattle.session_core.specs.declared.event.PeerEvent.TheVariants.{All}
use Rattle.session_core.specs.Courses.{courses, for_all, in_turn}
use Rattle.session_core.specs.Events.{happens}
use Rattle.session_core.proofs.neighbours.Neighbours.happen_to_all.Given as goal

-- what those do that are left, behind those so far, is what all do
abbrev pub invariant-loop-peer : goal.invariant-loop-peer
invariant-loop-peer l =
    in_turn (happens (All l.fn.event) l.fn.now) (iter_rest l.peer-iterator) (courses l.self l.done)
    ≡ for_all (happens (All l.fn.event) l.fn.now) (courses l.fn.self l.fn.done)
