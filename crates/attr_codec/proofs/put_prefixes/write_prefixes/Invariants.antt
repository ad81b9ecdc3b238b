use Rattle.std.proofs.Common.{◌≡◌, ◌++◌, take}
use Rattle.attr_codec.specs.Prefixes.{prefixes_bytes}
use Rattle.attr_codec.proofs.put_prefixes.write_prefixes.Given as goal

abbrev pub invariant-loop-prefix : goal.invariant-loop-prefix
invariant-loop-prefix l = l.out ≡ l.fn.out ++ prefixes_bytes (take l.prefix-index l.prefixes)
