use Rattle.std.proofs.Common.{◌≡◌, length, take}
use Rattle.attr_codec.specs.Prefixes.{prefixes_bytes}
use Rattle.attr_codec.specs.Size.{capped}
use Rattle.attr_codec.proofs.put_prefixes.prefixes_size.Given as goal

abbrev pub invariant-loop-prefix : goal.invariant-loop-prefix
invariant-loop-prefix l = l.total ≡ capped (length (prefixes_bytes (take l.prefix-index l.prefixes)))
