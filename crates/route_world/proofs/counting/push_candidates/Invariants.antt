use Rattle.std.proofs.Common.{◌≡◌, ◌++◌, drop, map}
use Rattle.decision.specs.declared.candidate.Candidate.{Candidate}
use Rattle.route_world.proofs.counting.push_candidates.Given as goal

-- those so far, followed by those of the candidates that are left, are all
abbrev pub invariant-loop-candidate : goal.invariant-loop-candidate
invariant-loop-candidate l =
    l.all ++ map (λ (c : Candidate). c.attrs.attrs) (drop l.candidate-index l.found)
    ≡ l.initial.all ++ map (λ (c : Candidate). c.attrs.attrs) l.found
