use Rattle.std.proofs.Common.{ℕ, ◌∙◌, sym, ap, length, arith}
use Rattle.std.specs.Prelude.{slice_get, Some}
use Rattle.lane_scan.specs.declared.columns.Slot.{Slot}
use Rattle.lane_scan.proofs.Slots.{length-slots, slot_at}
use Rattle.lane_scan.proofs.columns.Columns.at.Goals as goal

pub index-requires : goal.index-requires
index-requires c =
    let columns = c.self.inside in
    let long = ap length (sym c.self.view_is) ∙ length-slots columns.high.items columns.low.items columns.len.items columns.low_too columns.len_too in
    omega (arith, long)

pub index-requires-2 : goal.index-requires-2
index-requires-2 c =
    let columns = c.self.inside in
    let long = ap length (sym c.self.view_is) ∙ length-slots columns.high.items columns.low.items columns.len.items columns.low_too columns.len_too in
    omega (arith, long)

pub index-requires-3 : goal.index-requires-3
index-requires-3 c =
    let columns = c.self.inside in
    let long = ap length (sym c.self.view_is) ∙ length-slots columns.high.items columns.low.items columns.len.items columns.low_too columns.len_too in
    omega (arith, long)

pub returns : goal.returns
returns c =
    let columns = c.self.inside in
    let long = ap length (sym c.self.view_is) ∙ length-slots columns.high.items columns.low.items columns.len.items columns.low_too columns.len_too in
    let at = slot_at columns.high.items columns.low.items columns.len.items c.args.index _ _ _ columns.low_too columns.len_too (omega (arith, long)) c.index.ensures c.index-2.ensures c.index-3.ensures in
    ap (λ slots. slice_get slots c.args.index) (sym c.self.view_is) ∙ (at ∙ ap (λ (bits : ℕ). let slot : Slot = record { bits = bits; len = c.index-3.result.now } in Some slot) (sym c.whole.ensures))
