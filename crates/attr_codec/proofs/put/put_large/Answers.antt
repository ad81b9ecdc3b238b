use Rattle.byteorder.specs.Endian.{big_bytes}
use Rattle.attr_codec.specs.Written.{large_bytes}
use Rattle.attr_codec.proofs.Appends.{three}
use Rattle.attr_codec.proofs.put.put_large.Goals as goal

pub returns-clause-ok : goal.returns-clause-ok
unfolding large_bytes
returns-clause-ok c =
    three c.args.out.now (big_bytes 4 c.args.large.0) (big_bytes 4 c.args.large.1) (big_bytes 4 c.args.large.2) c.put_u32.new.self c.put_u32-2.new.self c.put_u32-3.new.self
    c.in_ok-put_u32.ensures.ok c.in_ok-put_u32-2.ensures.ok c.in_ok-put_u32-3.ensures.ok
