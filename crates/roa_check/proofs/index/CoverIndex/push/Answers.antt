use Rattle.std.proofs.Common.{ℕ, ◌≡◌, ◌∙◌, ◌++◌, ◌∷◌, [], sym, subst, ap, rules}
use Rattle.std.specs.Prelude.{List}
use Rattle.lane_scan.specs.declared.columns.Slot.{Slot}
use Rattle.roa_check.specs.Index.{IsIndex}
use Rattle.roa_check.proofs.Parents.{pushed}
use Rattle.roa_check.proofs.index.CoverIndex.push.Goals as goal

pub invariant_of-self-inside-2 : goal.invariant_of-self-inside-2
invariant_of-self-inside-2 c =
    let parents = c.self.inside.parents.items in
    let index = subst (λ (slots : List Slot). IsIndex slots parents) c.self.view_is c.self.inside.built in
    let all = pushed c.args.self.now parents c.args.slot c.parent_of-parent.result index c.requires.whole c.requires.last c.parent_of-parent.ensures in
    let slots = c.in_ok-push.ensures.ok ∙ ap (λ (old : List Slot). old ++ c.args.slot ∷ []) c.self.view_is in
    let places : c.push-2.new.self.items ≡ parents ++ c.parent_of-parent.result ∷ [] = search rules in
    (subst (λ (now : List Slot). IsIndex now c.push-2.new.self.items) (sym slots) (subst (IsIndex (c.args.self.now ++ c.args.slot ∷ [])) (sym places) all), tt)
