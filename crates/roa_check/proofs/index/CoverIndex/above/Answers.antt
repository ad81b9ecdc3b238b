use Rattle.std.proofs.Common.{ℕ, ◌≡◌, ◌+◌, ◌-◌, ◌<◌, ◌≤◌, ◌∙◌, sym, subst, ap, arith, true≢false}
use Rattle.std.specs.Prelude.{List, slice_get, Some, length}
use Rattle.std.proofs.lemmas.Option.{slice_get_read}
use Rattle.lane_scan.specs.declared.columns.Slot.{Slot}
use Rattle.roa_check.specs.Index.{IsIndex}
use Rattle.roa_check.proofs.Parents.{at_place, parents_before, none_above, last_of_more}
use Rattle.roa_check.proofs.index.CoverIndex.above.Goals as goal

pub climb-requires-clause-within : goal.climb-requires-clause-within
climb-requires-clause-within c =
    let parents = c.self.inside.parents.items in
    let index = subst (λ (slots : List Slot). IsIndex slots parents) c.self.view_is c.self.inside.built in
    let up = slice_get_read parents _ _ _ (sym index.as_many) c.requires.within c.index.ensures in
    let one = at_place c.args.self.now c.args.slot c.args.at c.requires.covering in
    omega (arith, (index.nearest _ _ _ one.1 up).before, c.requires.within)

pub climb-requires-clause-before : goal.climb-requires-clause-before
climb-requires-clause-before c =
    let parents = c.self.inside.parents.items in
    let index = subst (λ (slots : List Slot). IsIndex slots parents) c.self.view_is c.self.inside.built in
    let up = slice_get_read parents _ _ _ (sym index.as_many) c.requires.within c.index.ensures in
    parents_before c.args.self.now parents index c.args.slot c.args.at _ c.requires.covering up

pub returns-else-is_repeat : goal.returns-else-is_repeat
returns-else-is_repeat c =
    let parents = c.self.inside.parents.items in
    let index = subst (λ (slots : List Slot). IsIndex slots parents) c.self.view_is c.self.inside.built in
    let up = slice_get_read parents _ _ _ (sym index.as_many) c.requires.within c.index.ensures in
    let one = at_place c.args.self.now c.args.slot c.args.at c.requires.covering in
    last_of_more c.args.self.now c.args.slot _ _ c.climb.result (index.nearest _ _ _ one.1 up).before
    (none_above c.args.self.now parents index c.args.slot c.args.at _ c.requires.covering up (λ repeat. true≢false (sym (c.is_repeat.ensures.1 repeat) ∙ c.if-is_repeat.false)))
    c.climb.ensures
