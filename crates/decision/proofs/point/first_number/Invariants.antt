use Rattle.std.proofs.Common.{◌≡◌, drop}
use Rattle.decision.specs.Best.{first_number}
use Rattle.decision.proofs.point.first_number.Given as goal

abbrev pub invariant-loop-segment : goal.invariant-loop-segment
invariant-loop-segment l = first_number (drop l.segment-index l.path) ≡ first_number l.path
