use Rattle.std.proofs.Common.{refl}
use Rattle.imsg_wire.proofs.Links.{gives_first, given_shorter}
use Rattle.imsg_wire.proofs.link.Link.next.Goals as goal

pub returns-clause-holds : goal.returns-clause-holds
returns-clause-holds c raws holds = gives_first c.args.self.now (record { reader = c.next.new.self; coming = c.args.self.now.coming }) raws c.next.result c.next.ensures.takes refl holds

pub returns-clause-shorter : goal.returns-clause-shorter
returns-clause-shorter c = given_shorter c.args.self.now.reader c.next.new.self c.next.result c.next.ensures.takes
