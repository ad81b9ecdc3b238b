use Rattle.parent_core.proofs.Costs.{unit_costs}
use Rattle.parent_core.proofs.Following.{unit_follows}
use Rattle.parent_core.proofs.parent.Parent.unit.Goals as goal

pub returns-in-Ok-clause-history : goal.returns-in-Ok-clause-history
returns-in-Ok-clause-history g c = unit_follows c.args.self.now c.work.new.self c.in-Ok.done _ _ c.in-Ok.ensures.worked

pub returns-in-Ok-clause-cost : goal.returns-in-Ok-clause-cost
returns-in-Ok-clause-cost g c = unit_costs c.args.self.now c.work.new.self c.in-Ok.done _ _ c.in-Ok.ensures.worked
