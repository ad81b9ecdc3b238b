use Rattle.std.proofs.Common.{◌≡◌, length}
use Rattle.attr_codec.specs.Cut.{behind, cut}
use Rattle.attr_codec.specs.Path.{segment_at}
use Rattle.attr_codec.proofs.path.read_path.Given as goal

abbrev pub invariant-loop-left : goal.invariant-loop-left
invariant-loop-left l = behind l.path (cut (segment_at l.as4) l.left) ≡ cut (segment_at l.as4) l.value

abbrev pub decreases-loop-left : goal.decreases-loop-left
decreases-loop-left l = length l.left
