use Rattle.std.proofs.Common.{◌≡◌, ◌+◌, length, decimal}
use Rattle.net_base.proofs.number.digits.Given as goal

-- the digits that were counted, and those of what is left, are all but for one that is in both
abbrev pub invariant-loop-rest : goal.invariant-loop-rest
invariant-loop-rest l = l.count + length (decimal l.rest) ≡ length (decimal l.n) + 1

abbrev pub decreases-loop-rest : goal.decreases-loop-rest
decreases-loop-rest l = l.rest
