use Rattle.std.proofs.Common.{◌≡◌, true, subst, rules}
use Rattle.peer_session.specs.Neighbour.{Does, Neighbour, is_connected}
use Rattle.peer_session.specs.Steps.{handles_front, is_there}
use Rattle.peer_session.proofs.Shrinks.{handled}
use Rattle.peer_session.proofs.neighbour.NeighbourSession.handle_next.Goals as goal

pub returns : goal.returns
returns c =
    let connected : is_connected c.args.self.now ≡ true = search rules in
    let there : is_there c.front-front.result ≡ true = search rules in
    handled c.args.number c.args.now c.args.self.now c.handle_front.new.self c.args.done.now c.handle_front.new.done c.front-front.result
    c.front-front.ensures.cut connected there
    (subst (λ (n : Neighbour). Does (handles_front c.args.number c.args.now c.front-front.result) n c.handle_front.new.self c.args.done.now c.handle_front.new.done)
    c.front-front.ensures.same c.in_ok-handle_front.ensures)
