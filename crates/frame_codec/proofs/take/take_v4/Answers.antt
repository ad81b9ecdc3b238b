use Rattle.std.proofs.Common.{refl}
use Rattle.net_base.specs.declared.addr.Family.TheVariants.{V4}
use Rattle.frame_codec.proofs.Places.{addr_made}
use Rattle.frame_codec.proofs.take.take_v4.Goals as goal

pub returns : goal.returns
returns c = addr_made V4 4 c.in_ok-bits.bits c.args.left.now c.u32.new.self _ c.in_ok-bits.ensures refl c.from.ensures
