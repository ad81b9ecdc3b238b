use Rattle.std.proofs.Common.{◌≡◌, length}
use Rattle.attr_codec.specs.Cut.{cut}
use Rattle.attr_codec.specs.Prefixes.{prefix_at}
use Rattle.attr_codec.proofs.prefixes.are_prefixes.Given as goal

abbrev pub invariant-loop-left : goal.invariant-loop-left
invariant-loop-left l = (cut (prefix_at l.family) l.left).whole ≡ (cut (prefix_at l.family) l.field).whole

abbrev pub decreases-loop-left : goal.decreases-loop-left
decreases-loop-left l = length l.left
