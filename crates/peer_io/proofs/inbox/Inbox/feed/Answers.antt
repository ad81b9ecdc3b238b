use Rattle.std.proofs.Common.{arith}
use Rattle.peer_io.proofs.Fronts.{came_fed, judged_fed}
use Rattle.peer_io.proofs.inbox.Inbox.feed.Goals as goal

pub invariant_of-self : goal.invariant_of-self
invariant_of-self c size e =
    judged_fed c.push.result c.self.inside.held c.args.bytes.now c.push.new.self size c.push.ensures.ok c.push.ensures.err (c.self.invariant size e)

pub returns-clause-came : goal.returns-clause-came
returns-clause-came c =
    came_fed c.push.result c.self.inside.held c.args.self.now c.args.bytes.now c.push.new.self (λ i. omega (arith, c.type_inv.bytes i)) c.self.view_is c.push.ensures.ok
