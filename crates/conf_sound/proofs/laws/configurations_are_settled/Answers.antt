use Rattle.conf_sound.proofs.Settled.{settled}
use Rattle.conf_sound.proofs.laws.configurations_are_settled.Goals as goal

pub returns : goal.returns
returns c limit text conf e = settled limit text conf e
