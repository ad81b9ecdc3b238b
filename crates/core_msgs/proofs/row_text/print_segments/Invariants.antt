use Rattle.std.proofs.Common.{◌≡◌, ◌++◌, drop, flat_map}
use Rattle.core_msgs.specs.RowText.{segment_text}
use Rattle.core_msgs.proofs.row_text.print_segments.Given as goal

-- the bytes so far, followed by what is to come, are the whole
abbrev pub invariant-loop-segment : goal.invariant-loop-segment
invariant-loop-segment l = l.out ++ flat_map segment_text (drop l.segment-index l.segments) ≡ l.fn.out ++ flat_map segment_text l.segments
