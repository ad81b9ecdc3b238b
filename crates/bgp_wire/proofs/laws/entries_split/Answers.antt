use Rattle.bgp_wire.proofs.Cutting.{entries_written, entries_only}
use Rattle.bgp_wire.proofs.laws.entries_split.Goals as goal

pub returns-clause-written : goal.returns-clause-written
returns-clause-written c es = entries_written es

pub returns-clause-only : goal.returns-clause-only
returns-clause-only c bytes es h = entries_only bytes es h
