use Rattle.std.proofs.Common.{◌≡◌, drop}
use Rattle.frame_codec.proofs.Unknown.{rise_from}
use Rattle.frame_codec.proofs.valid.are_unknown.Given as goal

abbrev pub invariant-loop-kind : goal.invariant-loop-kind
invariant-loop-kind l = rise_from 0 l.unknown ≡ rise_from l.least (drop l.kind-index l.unknown)
