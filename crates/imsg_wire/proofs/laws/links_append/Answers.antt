use Rattle.imsg_wire.proofs.Links.{holds_appended}
use Rattle.imsg_wire.proofs.laws.links_append.Goals as goal

pub returns : goal.returns
returns c old new raws raw holds fits appended = holds_appended old new raws raw holds fits appended
