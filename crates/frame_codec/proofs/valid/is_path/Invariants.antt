use Rattle.std.proofs.Common.{take}
use Rattle.attr_model.specs.Valid.{IsPath}
use Rattle.frame_codec.proofs.valid.is_path.Given as goal

abbrev pub invariant-loop-segment : goal.invariant-loop-segment
invariant-loop-segment l = IsPath (take l.segment-index l.path)
