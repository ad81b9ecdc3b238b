use Rattle.std.proofs.Common.{◌≡◌}
use Rattle.attr_codec.specs.Unknown.{unknown_below}
use Rattle.attr_codec.proofs.unknown.unknown.Given as goal

-- So far stand those of lesser types.
abbrev pub invariant-loop-kind : goal.invariant-loop-kind
invariant-loop-kind l = l.list ≡ unknown_below l.kind l.field
