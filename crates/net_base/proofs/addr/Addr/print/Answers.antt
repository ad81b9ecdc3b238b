use Rattle.net_base.proofs.AddrText.{addr_text-spells_only}
use Rattle.net_base.proofs.addr.Addr.print.Goals as goal

pub returns-clause-round_trip : goal.returns-clause-round_trip
returns-clause-round_trip c = addr_text-spells_only c.args.self
