use Rattle.reload_stage.proofs.Completing.{stage_completes, staged_gives}
use Rattle.reload_stage.proofs.laws.stages_give_configurations.Goals as goal

pub returns-clause-order : goal.returns-clause-order
returns-clause-order c generation text = stage_completes generation text

pub returns-clause-given : goal.returns-clause-given
returns-clause-given c generation conf result can gives = staged_gives generation conf result can gives
