use Rattle.std.proofs.Common.{ℕ, ◌≡◌, ◌+◌, ◌-◌, ◌<◌, ◌≤◌, ◌∙◌, sym, subst, ap, arith, inl, inr}
use Rattle.std.specs.Prelude.{List, slice_get, Some}
use Rattle.std.proofs.lemmas.Bool.{cases_lt}
use Rattle.std.proofs.lemmas.Option.{slice_get_read}
use Rattle.lane_scan.specs.declared.columns.Slot.{Slot}
use Rattle.roa_check.specs.Index.{IsIndex}
use Rattle.roa_check.proofs.Parents.{passed_over}
use Rattle.roa_check.proofs.index.CoverIndex.climb.Goals as goal

pub loop-count-preserved : goal.loop-count-preserved
loop-count-preserved c =
    let slots = c.args.self.now in
    let parents = c.self.inside.parents.items in
    let index = subst (λ (slots : List Slot). IsIndex slots parents) c.self.view_is c.self.inside.built in
    let here = ap (λ (slots : List Slot). slice_get slots (c.loop-count.count - 1)) (sym c.self.view_is) ∙ c.at.ensures in
    let long = index.as_many in
    let up : slice_get parents (c.loop-count.count - 1) ≡ Some c.index-count.result.now = slice_get_read parents _ _ _ (sym long) (omega (arith, c.loop-count-test.true, c.loop-count.invariant.fewer, c.requires.within)) c.index-count.ensures in
    let before = c.requires.before (c.loop-count.count - 1) c.at.result (omega (arith, c.loop-count-test.true, c.loop-count.invariant.fewer)) here in
    let parent = index.nearest _ _ _ here up in
    let over = passed_over slots parents index c.args.slot (c.loop-count.count - 1) c.index-count.result.now c.at.result here up before (sym c.covers.ensures ∙ c.if-covers.false) in
    record {
      fewer = omega (arith, parent.before, c.loop-count.invariant.fewer);
      none_behind = λ k from to.
          elim (cases_lt k c.loop-count.count) [ inl below ↦ over k from (omega arith) | inr rest ↦ c.loop-count.invariant.none_behind k rest to ];
    }
