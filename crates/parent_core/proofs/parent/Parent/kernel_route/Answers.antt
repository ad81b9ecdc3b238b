use Rattle.parent_core.proofs.Costs.{route_costs}
use Rattle.parent_core.proofs.parent.Parent.kernel_route.Goals as goal

pub returns-in-Ok-clause-cost : goal.returns-in-Ok-clause-cost
returns-in-Ok-clause-cost c = route_costs c.args.prefix c.args.up c.args.self.now _ c.in-Ok.done c.in-Ok.ensures
