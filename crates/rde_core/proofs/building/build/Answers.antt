use Rattle.rde_core.proofs.Ready.{order_by, queued_by}
use Rattle.rde_core.proofs.building.build.Goals as goal

pub build-requires-clause-queued : goal.build-requires-clause-queued
build-requires-clause-queued g c =
    queued_by c.in_ok-wants.wants c.in_ok-ready.ready c.args.tables.now.routes.outs c.args.live.number c.in_ok-wants.ensures.prefixes c.in_ok-ready.ensures

pub build-requires-clause-order : goal.build-requires-clause-order
build-requires-clause-order g c =
    order_by c.in_ok-wants.wants c.in_ok-ready.ready c.args.tables.now.routes.outs c.args.live.number c.in_ok-wants.ensures.prefixes c.in_ok-ready.ensures
