-- Texts that are put behind one another.
use Rattle.std.proofs.Common.{◌≡◌, ℕ, List, ◌++◌, Result, Ok, Err, OnOk, ap, ◌∙◌, append_assoc}

-- two texts put behind one another are both of them put behind, where the second call may have been refused memory
pub second_behind : {E : Type 0} (result : Result (Unit {0}) E) (old middle new first second : List ℕ) → middle ≡ old ++ first → OnOk result (new ≡ middle ++ second) → OnOk result (new ≡ old ++ (first ++ second))
second_behind (Ok value) old middle new first second e f = f ∙ ap (λ l. l ++ second) e ∙ append_assoc old first second
second_behind (Err error) old middle new first second e f = tt
