use Rattle.std.proofs.Common.{◌≡◌, ◌++◌, take}
use Rattle.attr_codec.proofs.join.append.Given as goal

abbrev pub invariant-loop-segment : goal.invariant-loop-segment
invariant-loop-segment l = l.path ≡ l.fn.path ++ take l.segment-index l.segments
