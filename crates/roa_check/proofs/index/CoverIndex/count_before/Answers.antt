use Rattle.std.proofs.Common.{ℕ, ◌≡◌, ◌<◌, ◌≤◌, ◌+◌, ◌-◌, ◌/◌, ◌∙◌, sym, subst, ap, arith}
use Rattle.std.specs.Prelude.{List, slice_get, length}
use Rattle.lane_scan.specs.declared.columns.Slot.{Slot}
use Rattle.roa_check.specs.Index.{IsAscending, AreWhole, NoneBefore}
use Rattle.roa_check.proofs.Parents.{all_before, none_before, none_covers}
use Rattle.roa_check.proofs.index.CoverIndex.count_before.Goals as goal

pub loop-low-preserved-then-comes_before : goal.loop-low-preserved-then-comes_before
loop-low-preserved-then-comes_before c = record {
  between = omega (arith, c.loop-low-test.true);
  within = c.loop-low.invariant.within;
  front = all_before c.args.self.now c.args.slot c.at.result _ (subst IsAscending c.self.view_is c.self.inside.built.in_order)
      (ap (λ (slots : List Slot). slice_get slots (c.loop-low.low + (c.loop-low.high - c.loop-low.low) / 2)) (sym c.self.view_is) ∙ c.at.ensures) (sym c.comes_before.ensures ∙ c.if-comes_before.true);
  back = c.loop-low.invariant.back;
}

pub loop-low-preserved : goal.loop-low-preserved
loop-low-preserved c = record {
  between = omega arith;
  within = omega (arith, c.loop-low-test.true, c.loop-low.invariant.within);
  front = c.loop-low.invariant.front;
  back = none_before c.args.self.now c.args.slot c.at.result _ (subst IsAscending c.self.view_is c.self.inside.built.in_order)
      (ap (λ (slots : List Slot). slice_get slots (c.loop-low.low + (c.loop-low.high - c.loop-low.low) / 2)) (sym c.self.view_is) ∙ c.at.ensures) (sym c.comes_before.ensures ∙ c.if-comes_before.false);
}

pub returns-clause-behind : goal.returns-clause-behind
returns-clause-behind c =
    let low : c.loop-low.low ≡ c.loop-low.high = omega (arith, c.loop-low-test.false, c.loop-low.invariant.between) in
    none_covers c.args.self.now c.args.slot c.loop-low.low (subst AreWhole c.self.view_is c.self.inside.built.whole) (subst (NoneBefore c.args.self.now c.args.slot) (sym low) c.loop-low.invariant.back)
