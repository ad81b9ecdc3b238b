use Rattle.parent_core.proofs.Answering.{tracked_was_answered}
use Rattle.parent_core.proofs.laws.last_answers_hold.Goals as goal

pub returns : goal.returns
returns c = tracked_was_answered
