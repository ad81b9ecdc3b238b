-- Texts that are put behind one another.
use Rattle.std.proofs.Common.{◌≡◌, ℕ, List, ◌++◌, Option, None, Some, Result, Ok, Err, OnOk, ap, ◌∙◌, append_assoc}
use Rattle.std.specs.Fmt.{WritesText, AppendsText}
use Rattle.std.proofs.lemmas.Fmt.{contents_after_writes}

-- the text after some writes is the text before, followed by what they wrote
pub appends_text : (old new : List ℕ) (text : Option (List ℕ)) → WritesText (λ before more after. after ≡ before ++ more) old text new → AppendsText old new text
appends_text old new None writes = tt
appends_text old new (Some text) writes =
    contents_after_writes (λ before more after. after ≡ before ++ more) (λ bytes. bytes) (λ before more after e. e) old text new writes

-- two texts put behind one another are both of them put behind
pub both_behind : (old middle new first second : List ℕ) → middle ≡ old ++ first → new ≡ middle ++ second → new ≡ old ++ (first ++ second)
both_behind old middle new first second e f = f ∙ ap (λ l. l ++ second) e ∙ append_assoc old first second

-- the same where the second call may have been refused memory
pub second_behind : {E : Type 0} (result : Result (Unit {0}) E) (old middle new first second : List ℕ) → middle ≡ old ++ first → OnOk result (new ≡ middle ++ second) → OnOk result (new ≡ old ++ (first ++ second))
second_behind (Ok value) old middle new first second e f = both_behind old middle new first second e f
second_behind (Err error) old middle new first second e f = tt

-- three texts put behind one another, where the third call may have been refused memory
pub third_behind : {E : Type 0} (result : Result (Unit {0}) E) (old one two new first second third : List ℕ) → one ≡ old ++ first → two ≡ one ++ second → OnOk result (new ≡ two ++ third)
    → OnOk result (new ≡ old ++ (first ++ (second ++ third)))
third_behind (Ok value) old one two new first second third d e f = both_behind old one new first (second ++ third) d (both_behind one two new second third e f)
third_behind (Err error) old one two new first second third d e f = tt
