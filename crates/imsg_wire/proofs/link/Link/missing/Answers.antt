use Rattle.std.proofs.Common.{rules, ◌≡◌}
use Rattle.imsg_wire.specs.Holding.{missing_of}
use Rattle.imsg_wire.proofs.Links.{completes}
use Rattle.imsg_wire.proofs.link.Link.missing.Goals as goal

pub returns-clause-completes : goal.returns-clause-completes
returns-clause-completes c raw raws holds more =
    let count : c.saturating_sub.result ≡ missing_of c.args.self.now = search rules in
    completes c.args.self.now raw raws c.saturating_sub.result count holds more
