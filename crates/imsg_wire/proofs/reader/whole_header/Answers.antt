use Rattle.std.proofs.Common.{◌∙◌}
use Rattle.imsg_wire.proofs.Fronts.{none_there}
use Rattle.imsg_wire.proofs.reader.whole_header.Goals as goal

pub returns-in-None : goal.returns-in-None
returns-in-None c = none_there c.args.bytes.now (c.requires ∙ c.in-None.is)
