use Rattle.parent_core.proofs.Settling.{one_stage}
use Rattle.parent_core.proofs.laws.both_cores_get_one_stage.Goals as goal

pub returns : goal.returns
returns c = one_stage
