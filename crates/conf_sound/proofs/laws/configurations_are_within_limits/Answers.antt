use Rattle.conf_sound.proofs.Whole.{within_limits}
use Rattle.conf_sound.proofs.laws.configurations_are_within_limits.Goals as goal

pub returns : goal.returns
returns c limit text conf e = within_limits limit text conf e
