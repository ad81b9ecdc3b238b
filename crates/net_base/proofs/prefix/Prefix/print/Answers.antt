use Rattle.net_base.proofs.PrefixText.{prefix_text-spells_only}
use Rattle.net_base.proofs.prefix.Prefix.print.Goals as goal

pub returns-clause-round_trip : goal.returns-clause-round_trip
returns-clause-round_trip c = prefix_text-spells_only c.args.self
