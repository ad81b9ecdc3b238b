use Rattle.std.proofs.Common.{◌≡◌, not}
use Rattle.std.specs.List.{list_any}
use Rattle.decision.specs.Meds.{is_lower_for}
use Rattle.decision.proofs.Flags.{walked}
use Rattle.decision.proofs.meds.drop_above.Given as goal

abbrev pub invariant-loop-at : goal.invariant-loop-at
invariant-loop-at l = l.left ≡ walked (λ candidate. not (list_any (is_lower_for candidate) l.meds)) l.at l.initial.left l.candidates
