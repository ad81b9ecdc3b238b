use Rattle.decision.proofs.SameMembers.{best_there, best_may}
use Rattle.decision.proofs.laws.best_is_a_member.Goals as goal

pub returns-clause-there : goal.returns-clause-there
returns-clause-there c always ones best e = best_there always ones best e

pub returns-clause-eligible : goal.returns-clause-eligible
returns-clause-eligible c always ones best e = best_may always ones best e
