use Rattle.std.proofs.Common.{◌∙◌, sym}
use Rattle.peer_session.proofs.Fronts.{front_is}
use Rattle.peer_session.proofs.neighbour.NeighbourSession.handle_front.Goals as goal

pub pass-requires : goal.pass-requires
pass-requires c = (front_is c.args.self.now.held c.in-Message.kind c.in-Message.length (sym c.requires ∙ c.in-Message.is)).whole
