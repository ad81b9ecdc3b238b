-- Candidates of one prefix.
use Rattle.std.specs.Prelude.{◌≢◌, List, [], ◌∷◌}
use Rattle.std.specs.List.{AllByRecursion}
use Rattle.decision.specs.declared.candidate.Candidate.{Candidate}

-- no two candidates come from one place
abbrev pub HaveDistinctOrigins : List Candidate → Type 0
HaveDistinctOrigins [] = Unit {0}
HaveDistinctOrigins (candidate ∷ rest) = AllByRecursion (λ other. candidate.from ≢ other.from) rest × HaveDistinctOrigins rest
