use Rattle.std.proofs.Common.{◌≡◌, ◌∙◌, List, map, get_or, refl, sym, ap, subst, true, arith}
use Rattle.std.specs.Prelude.{slice_get, Some, option_map}
use Rattle.std.proofs.lemmas.Option.{slice_get_read, slice_get-map}
use Rattle.lane_scan.specs.declared.columns.Slot.{Slot}
use Rattle.roa_check.specs.Index.{IsWhole, comes_before}
use Rattle.conf_sets.specs.Tables.{range_slot}
use Rattle.roa_check.proofs.Placing.{slot_whole, in_front}
use Rattle.conf_sets.proofs.range_side.index_of.Goals as goal

pub push-requires-clause-whole : goal.push-requires-clause-whole
push-requires-clause-whole c = subst IsWhole (sym c.slot_of.ensures) (slot_whole c.range-item.result.prefix)

pub push-requires-clause-last : goal.push-requires-clause-last
push-requires-clause-last c k one within here =
    let ranges = c.args.ranges.now in
    let (before, there) = in_front range_slot ranges c.loop-range.range-index k one (ap (λ (slots : List Slot). slice_get slots k) (sym c.loop-range.invariant) ∙ here) in
    let item = slice_get_read ranges _ c.loop-range.range-index c.range-item.result refl c.loop-range-test.true c.range-item.is in
    let next = slice_get-map range_slot ranges c.loop-range.range-index ∙ ap (option_map range_slot) item in
    subst (λ (slot : Slot). comes_before one slot ≡ true) (sym c.slot_of.ensures) (c.requires k c.loop-range.range-index one _ (omega (arith, before)) there next)
