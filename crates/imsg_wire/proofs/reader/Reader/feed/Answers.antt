use Rattle.imsg_wire.proofs.Fronts.{header_at-fed}
use Rattle.imsg_wire.proofs.reader.Reader.feed.Goals as goal

pub invariant_of-self : goal.invariant_of-self
invariant_of-self c h known = header_at-fed c.push.result c.self.inside.held c.args.bytes.now c.push.new.self h c.push.ensures.ok c.push.ensures.err (c.self.invariant h known)
