use Rattle.std.proofs.Common.{refl}
use Rattle.net_base.specs.declared.addr.Family.TheVariants.{V6}
use Rattle.frame_codec.proofs.Places.{addr_made}
use Rattle.frame_codec.proofs.take.take_v6.Goals as goal

pub returns : goal.returns
returns c = addr_made V6 16 c.in_ok-bits.bits c.args.left.now c.take_u128.new.left _ c.in_ok-bits.ensures refl refl
