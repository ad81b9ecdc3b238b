use Rattle.std.proofs.Common.{◌≡◌, ◌++◌, take, flat_map}
use Rattle.byteorder.specs.Endian.{big_bytes}
use Rattle.attr_codec.proofs.put.put_u32s.Given as goal

abbrev pub invariant-loop-number : goal.invariant-loop-number
invariant-loop-number l = l.out ≡ l.fn.out ++ flat_map (big_bytes 4) (take l.number-index l.numbers)
