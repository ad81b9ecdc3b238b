use Rattle.session_core.proofs.Climbing.{few_ups}
use Rattle.session_core.proofs.laws.bytes_alone_bring_sessions_up.Goals as goal

pub returns : goal.returns
returns c = few_ups
