use Rattle.parent_core.proofs.Costs.{frame_costs}
use Rattle.parent_core.proofs.Following.{frame_follows}
use Rattle.parent_core.proofs.parent.Parent.frame.Goals as goal

pub returns-in-Ok-clause-history : goal.returns-in-Ok-clause-history
returns-in-Ok-clause-history c = frame_follows c.args.frame c.args.self.now _ c.in-Ok.done c.in-Ok.ensures.taken

pub returns-in-Ok-clause-cost : goal.returns-in-Ok-clause-cost
returns-in-Ok-clause-cost c = frame_costs c.args.frame c.args.self.now _ c.in-Ok.done c.in-Ok.ensures.taken
