use Rattle.conf_sound.proofs.Whole.{readable}
use Rattle.conf_sound.proofs.laws.configurations_can_be_written.Goals as goal

pub returns : goal.returns
returns c limit text conf e = readable limit text conf e
