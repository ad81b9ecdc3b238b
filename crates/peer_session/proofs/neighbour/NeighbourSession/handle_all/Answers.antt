use Rattle.peer_session.specs.Neighbour.{course}
use Rattle.peer_session.specs.Steps.{stops}
use Rattle.peer_session.proofs.Shrinks.{next_less, next_stands}
use Rattle.peer_session.proofs.neighbour.NeighbourSession.handle_all.Goals as goal

pub loop-goes-preserved : goal.loop-goes-preserved
loop-goes-preserved c =
    next_stands c.args.number c.args.now (course c.args.self.now c.args.done.now) c.in_ok-went.went c.loop-goes.self c.handle_next.new.self
    c.loop-goes.done c.handle_next.new.done c.in_ok-went.ensures c.loop-goes.invariant.0

pub loop-goes-smaller : goal.loop-goes-smaller
loop-goes-smaller c =
    next_less c.args.number c.args.now c.loop-goes.goes c.in_ok-went.went c.loop-goes.self c.handle_next.new.self
    c.loop-goes.done c.handle_next.new.done c.loop-goes-test.true c.in_ok-went.ensures

pub returns : goal.returns
returns c =
    c.loop-goes.invariant.0 (course c.loop-goes.self c.loop-goes.done)
    (stops (course c.loop-goes.self c.loop-goes.done) (c.loop-goes.invariant.1 c.loop-goes-test.false))
