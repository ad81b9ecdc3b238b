-- What a call of the decision core reports.
use Rattle.std.specs.Prelude.{◌≡◌, ℕ, List, [], ◌∷◌, Option, Some, None}
use Rattle.core_msgs.specs.declared.answer.Line.{Line}
use Rattle.core_msgs.specs.declared.answer.Line.TheVariants.{AppliedDecision}

-- that a configuration of this generation holds, where one was taken up
abbrev pub applied : Option ℕ → List Line
applied None = []
applied (Some generation) = AppliedDecision generation ∷ []

-- the lines report that a configuration holds, or nothing
abbrev pub ReportsApplied : List Line → Type 0
ReportsApplied lines = (generation : Option ℕ) × (lines ≡ applied generation)
