use Rattle.std.proofs.Common.{◌≡◌, ap}
use Rattle.peer_session.specs.Neighbour.{Neighbour}
use Rattle.peer_session.proofs.Fronts.{front_is}
use Rattle.peer_session.proofs.neighbour.NeighbourSession.hear_front.Goals as goal

pub body-body-requires-clause-whole : goal.body-body-requires-clause-whole
body-body-requires-clause-whole c =
    let e : c.self.inside.inbox ≡ c.args.self.now.held = ap (λ (n : Neighbour). n.held) c.self.view_is in
    rw e (front_is c.args.self.now.held c.args.kind c.args.length c.requires).whole

pub body-body-requires-clause-header : goal.body-body-requires-clause-header
body-body-requires-clause-header c = (front_is c.args.self.now.held c.args.kind c.args.length c.requires).header

pub hear-requires : goal.hear-requires
hear-requires c =
    let e : c.self.inside.inbox ≡ c.args.self.now.held = ap (λ (n : Neighbour). n.held) c.self.view_is in
    rw (c.body-body.ensures, e) (front_is c.args.self.now.held c.args.kind c.args.length c.requires).fits
