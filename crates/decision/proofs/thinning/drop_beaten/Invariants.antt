use Rattle.std.proofs.Common.{◌≡◌, not}
use Rattle.decision.specs.Points.{beats}
use Rattle.decision.proofs.Flags.{walked}
use Rattle.decision.proofs.thinning.drop_beaten.Given as goal

abbrev pub invariant-loop-at : goal.invariant-loop-at
invariant-loop-at l = l.left ≡ walked (λ candidate. not (beats l.point l.champion candidate)) l.at l.initial.left l.candidates
