use Rattle.decision.proofs.SameMembers.{any_order, at_most_one}
use Rattle.decision.proofs.laws.best_goes_by_members.Goals as goal

pub returns-clause-any_order : goal.returns-clause-any_order
returns-clause-any_order c always ones others d e members = any_order always ones others d e members

pub returns-clause-at_most_one : goal.returns-clause-at_most_one
returns-clause-at_most_one c always ones d = at_most_one always ones d
