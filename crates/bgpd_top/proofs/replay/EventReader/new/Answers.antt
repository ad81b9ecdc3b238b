use Rattle.std.proofs.Common.{refl}
use Rattle.bgpd_top.proofs.Coming.{fresh}
use Rattle.bgpd_top.proofs.replay.EventReader.new.Goals as goal

pub returns : goal.returns
returns c = record { ahead = record { live = c.in_ok-new.ensures.spent; none = refl; whole = fresh _ c.in_ok-new.ensures.passed c.in_ok-new.ensures.ahead } }
