use Rattle.std.proofs.Common.{length}
use Rattle.attr_codec.proofs.Noting.{IsWalked}
use Rattle.attr_codec.proofs.cut_field.cut_field.Given as goal

abbrev pub invariant-loop-left : goal.invariant-loop-left
invariant-loop-left l = IsWalked l.enc l.bytes l.left l.places l.kept

abbrev pub decreases-loop-left : goal.decreases-loop-left
decreases-loop-left l = length l.left
