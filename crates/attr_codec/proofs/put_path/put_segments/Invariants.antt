use Rattle.std.proofs.Common.{◌≡◌, ◌++◌, take}
use Rattle.attr_codec.specs.Path.{path_bytes}
use Rattle.attr_codec.specs.Width.{AreSegments}
use Rattle.attr_codec.proofs.put_path.put_segments.Given as goal

abbrev pub invariant-loop-segment : goal.invariant-loop-segment
invariant-loop-segment l = record {
  so_far : l.out ≡ l.fn.out ++ path_bytes l.as4 (take l.segment-index l.path);
  width : AreSegments (take l.segment-index l.path);
}
