use Rattle.std.proofs.Common.{◌≡◌}
use Rattle.decision.proofs.Flags.{walked}
use Rattle.decision.proofs.thinning.keep_eligible.Given as goal

abbrev pub invariant-loop-at : goal.invariant-loop-at
invariant-loop-at l = l.left ≡ walked (λ candidate. candidate.eligible) l.at l.initial.left l.candidates
