use Rattle.std.proofs.Common.{◌≡◌, length}
use Rattle.attr_codec.specs.Cut.{behind, cut}
use Rattle.attr_codec.specs.Prefixes.{prefix_at}
use Rattle.attr_codec.proofs.prefixes.read_prefixes.Given as goal

abbrev pub invariant-loop-left : goal.invariant-loop-left
invariant-loop-left l = behind l.prefixes (cut (prefix_at l.family) l.left) ≡ cut (prefix_at l.family) l.field

abbrev pub decreases-loop-left : goal.decreases-loop-left
decreases-loop-left l = length l.left
