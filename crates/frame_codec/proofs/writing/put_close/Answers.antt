use Rattle.byteorder.specs.Endian.{big_bytes}
use Rattle.frame_codec.proofs.Fields.{four_put}
use Rattle.frame_codec.proofs.writing.put_close.Goals as goal

pub returns : goal.returns
returns c =
    four_put c.args.out.now (big_bytes 1 c.args.code) (big_bytes 1 c.args.sub) (big_bytes 8 c.args.held) (big_bytes 4 c.args.most) c.put_u8.new.self c.put_u8-2.new.self c.put_u64.new.out c.put_u32.new.self
    c.in_ok-put_u8.ensures.ok c.in_ok-put_u8-2.ensures.ok c.in_ok-put_u64.ensures c.in_ok-put_u32.ensures.ok
