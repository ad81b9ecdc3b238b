use Rattle.std.proofs.Common.{◌≡◌, ℕ, List, Option, Some, None, [], refl, sym, subst, ◌∙◌, inr}
use Rattle.kroute.specs.declared.phase.Work.{Work}
use Rattle.kroute.specs.Table.{TableState}
use Rattle.kroute.specs.Tables.{TablesState, IsLowest}
use Rattle.kroute.proofs.Lists.{IsFirst, first_there, none_below, none_first}
use Rattle.kroute.proofs.tables.Tables.next.Goals as goal

pub returns-in-Some-next : goal.returns-in-Some-next
returns-in-Some-next c =
    let n = c.in-Some.number.now in
    let work = c.in-Some-next.work in
    let here : IsFirst c.loop-number.number-iterator (Some (n, work)) = subst (λ (es : List (ℕ × TableState)). IsFirst es (Some (n, work))) (sym c.in-Some.ensures.steps) (inr (work, c.in-Some-next.ensures, refl)) in
    let all = c.loop-number.invariant (Some (n, work)) here in
    let entries = c.into_iter-number-iterator.ensures.into_iter_gives ∙ c.iter-number-items.ensures.rest in
    let first : IsFirst c.self.inside.tables.entries (Some (n, work)) = subst (λ (es : List (ℕ × TableState)). IsFirst es (Some (n, work))) entries all in
    let sorted = c.iter-number-items.ensures.ordered in
    subst (λ (s : TablesState). IsLowest s (Some (n, work))) c.self.view_is (first_there c.self.inside.tables.entries n work sorted first, none_below c.self.inside.tables.entries n work sorted first)

pub returns : goal.returns
returns c =
    let here : IsFirst c.loop-number.number-iterator None = subst (λ (es : List (ℕ × TableState)). IsFirst es None) (sym c.in-None.ensures.steps.0) refl in
    let all = c.loop-number.invariant None here in
    let entries = c.into_iter-number-iterator.ensures.into_iter_gives ∙ c.iter-number-items.ensures.rest in
    let first : IsFirst c.self.inside.tables.entries None = subst (λ (es : List (ℕ × TableState)). IsFirst es None) entries all in
    subst (λ (s : TablesState). IsLowest s None) c.self.view_is (none_first c.self.inside.tables.entries first)
