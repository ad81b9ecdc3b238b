use Rattle.session_core.proofs.Lines.{time_is_so}
use Rattle.session_core.proofs.laws.time_is_told.Goals as goal

pub returns : goal.returns
returns c = time_is_so
