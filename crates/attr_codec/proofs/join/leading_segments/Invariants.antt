use Rattle.std.proofs.Common.{◌≡◌, ◌++◌, drop}
use Rattle.attr_codec.specs.Values.{leading}
use Rattle.attr_codec.proofs.join.leading_segments.Given as goal

-- the part so far, with that of what is left, is all
abbrev pub invariant-loop-segment : goal.invariant-loop-segment
invariant-loop-segment l = l.path ++ leading l.left (drop l.segment-index l.segments) ≡ leading l.surplus l.segments
