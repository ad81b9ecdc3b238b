use Rattle.std.proofs.Common.{◌≡◌, ◌++◌, take}
use Rattle.std.specs.List.{AllByRecursion}
use Rattle.attr_codec.specs.Width.{IsUnknown}
use Rattle.attr_codec.specs.Written.{rows_bytes, unknown_rows}
use Rattle.attr_codec.proofs.put.put_unknown.Given as goal

abbrev pub invariant-loop-kind : goal.invariant-loop-kind
invariant-loop-kind l = record {
  so_far : l.out ≡ l.fn.out ++ rows_bytes (unknown_rows l.low l.high (take l.kind-index l.unknown));
  width : AllByRecursion IsUnknown (take l.kind-index l.unknown);
}
