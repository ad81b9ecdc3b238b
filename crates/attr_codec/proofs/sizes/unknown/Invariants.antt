use Rattle.std.proofs.Common.{◌≡◌, length, take}
use Rattle.attr_codec.specs.Written.{rows_bytes, unknown_rows}
use Rattle.attr_codec.specs.Size.{capped}
use Rattle.attr_codec.proofs.sizes.unknown.Given as goal

abbrev pub invariant-loop-kind : goal.invariant-loop-kind
invariant-loop-kind l = l.total ≡ capped (length (rows_bytes (unknown_rows l.low l.high (take l.kind-index l.unknown))))
