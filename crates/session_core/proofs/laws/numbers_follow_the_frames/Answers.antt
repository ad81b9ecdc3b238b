use Rattle.session_core.proofs.Numbering.{kept_by_frames}
use Rattle.session_core.proofs.laws.numbers_follow_the_frames.Goals as goal

pub returns : goal.returns
returns c = kept_by_frames
