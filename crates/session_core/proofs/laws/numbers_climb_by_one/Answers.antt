use Rattle.session_core.proofs.Climbing.{numbers_climb}
use Rattle.session_core.proofs.laws.numbers_climb_by_one.Goals as goal

pub returns : goal.returns
returns c = numbers_climb
