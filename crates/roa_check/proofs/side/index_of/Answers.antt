use Rattle.std.proofs.Common.{◌≡◌, ◌∙◌, List, map, get_or, refl, sym, ap, subst, true, arith}
use Rattle.std.specs.Prelude.{slice_get, Some, option_map}
use Rattle.std.proofs.lemmas.Option.{slice_get_read, slice_get-map}
use Rattle.lane_scan.specs.declared.columns.Slot.{Slot}
use Rattle.roa_check.specs.Index.{IsWhole, comes_before}
use Rattle.roa_check.specs.Table.{roa_slot}
use Rattle.roa_check.proofs.Placing.{slot_whole, in_front}
use Rattle.roa_check.proofs.side.index_of.Goals as goal

pub push-requires-clause-whole : goal.push-requires-clause-whole
push-requires-clause-whole c = subst IsWhole (sym c.slot_of.ensures) (slot_whole c.roa-item.result.prefix)

pub push-requires-clause-last : goal.push-requires-clause-last
push-requires-clause-last c k one within here =
    let roas = c.args.roas.now in
    let (before, there) = in_front roa_slot roas c.loop-roa.roa-index k one (ap (λ (slots : List Slot). slice_get slots k) (sym c.loop-roa.invariant) ∙ here) in
    let item = slice_get_read roas _ c.loop-roa.roa-index c.roa-item.result refl c.loop-roa-test.true c.roa-item.is in
    let next = slice_get-map roa_slot roas c.loop-roa.roa-index ∙ ap (option_map roa_slot) item in
    subst (λ (slot : Slot). comes_before one slot ≡ true) (sym c.slot_of.ensures) (c.requires k c.loop-roa.roa-index one _ (omega (arith, before)) there next)
