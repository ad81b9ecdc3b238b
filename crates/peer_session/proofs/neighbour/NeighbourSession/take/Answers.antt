use Rattle.peer_session.proofs.Takes.{take_does}
use Rattle.peer_session.proofs.neighbour.NeighbourSession.take.Goals as goal

pub returns : goal.returns
returns c =
    take_does c.args.event.now c.args.reason c.args.now c.args.self.now c.follow-actions.new.self c.push_where.new.self
    c.push_where-2.new.self c.end_where.new.self c.args.done.now c.end_where.new.done c.push_connect.new.lines c.follow-actions.result
    c.peer-peer.result c.rules.result c.is_connected-stood.result c.has_ended-is_ended.result
    c.peer-peer.ensures c.rules.ensures c.is_connected-stood.ensures c.follow-actions.ensures.state c.follow-actions.ensures.actions
    c.has_ended-is_ended.ensures c.in_ok-push_where.ensures c.in_ok-push_where-2.ensures c.in_ok-end_where.ensures c.in_ok-push_connect.ensures
