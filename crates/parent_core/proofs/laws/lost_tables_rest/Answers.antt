use Rattle.parent_core.proofs.Settling.{lost_rests}
use Rattle.parent_core.proofs.laws.lost_tables_rest.Goals as goal

pub returns : goal.returns
returns c = lost_rests
