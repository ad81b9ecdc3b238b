use Rattle.std.proofs.Common.{◌≡◌, ◌++◌, take, flat_map}
use Rattle.std.specs.List.{AllByRecursion}
use Rattle.attr_codec.specs.Width.{IsLarge}
use Rattle.attr_codec.specs.Written.{large_bytes}
use Rattle.attr_codec.proofs.put.put_larges.Given as goal

abbrev pub invariant-loop-large : goal.invariant-loop-large
invariant-loop-large l = record {
  so_far : l.out ≡ l.fn.out ++ flat_map large_bytes (take l.large-index l.larges);
  width : AllByRecursion IsLarge (take l.large-index l.larges);
}
