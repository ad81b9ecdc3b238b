use Rattle.std.proofs.Common.{rules}
use Rattle.cores_link.proofs.Shows.{show_follows}
use Rattle.cores_link.proofs.accepted.Accepted.control.Goals as goal

pub returns : goal.returns
returns c = show_follows _ _ _ (search rules) c.in_ok-answer.ensures
