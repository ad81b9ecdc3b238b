use Rattle.std.proofs.Common.{◌≤◌, ◌∙◌, List, length, map, get_or, refl, sym, ap, subst, arith}
use Rattle.std.specs.Prelude.{Option}
use Rattle.std.proofs.lemmas.Option.{slice_get_read}
use Rattle.net_base.specs.declared.roa.Roa.{Roa}
use Rattle.net_base.specs.Prefix.{covers}
use Rattle.lane_scan.specs.declared.columns.Slot.{Slot}
use Rattle.roa_check.specs.Index.{IsLastCovering}
use Rattle.roa_check.specs.Table.{roa_slot, slot_of}
use Rattle.roa_check.specs.Walk.{Walked}
use Rattle.roa_check.proofs.Placing.{slot_whole, covers_slots}
use Rattle.roa_check.proofs.Walk.{walk_begins, walk_goes_on}
use Rattle.roa_check.proofs.side.RoaSide.has_cover.Goals as goal

pub nearest-at-requires : goal.nearest-at-requires
nearest-at-requires c =
    let short : (slot_of c.args.prefix).len ≤ 128 = (slot_whole c.args.prefix).short in
    omega (arith, short, ap (λ (slot : Slot). slot.len) c.slot_of-slot.ensures)

pub loop-at-init : goal.loop-at-init
loop-at-init c =
    let roas = c.args.self.now in
    let slots = c.self.inside.placed ∙ ap (map roa_slot) c.self.view_is in
    let last = subst (λ (here : List Slot). IsLastCovering here c.slot_of-slot.result (length here) c.nearest-at.result) slots c.nearest-at.ensures in
    walk_begins roa_slot (λ (roa : Roa). covers roa.prefix c.args.prefix) roas (slot_of c.args.prefix) (λ (roa : Roa) e. covers_slots roa.prefix c.args.prefix e) (length (map roa_slot roas)) c.nearest-at.result refl
    (subst (λ (slot : Slot). IsLastCovering (map roa_slot roas) slot (length (map roa_slot roas)) c.nearest-at.result) c.slot_of-slot.ensures last)

pub loop-at-preserved : goal.loop-at-preserved
loop-at-preserved c =
    let roas = c.args.self.now in
    let slots = c.self.inside.placed ∙ ap (map roa_slot) c.self.view_is in
    let stands = subst (Walked roa_slot (λ (roa : Roa). covers roa.prefix c.args.prefix) roas (slot_of c.args.prefix)) c.in-Some.is c.loop-at.invariant in
    let list = c.as_slice.ensures ∙ c.self.view_is in
    let here = slice_get_read roas _ c.in-Some.place c.index-as_slice-place.result refl stands.within (c.index-as_slice-place.is ∙ ap (λ (entries : List Roa). get_or entries c.in-Some.place c.index-as_slice-place.result) list) in
    let last = subst (λ (here : List Slot). IsLastCovering here c.slot_of-slot.result c.in-Some.place c.above-at.result) slots c.above-at.ensures in
    walk_goes_on roa_slot (λ (roa : Roa). covers roa.prefix c.args.prefix) roas (slot_of c.args.prefix) (λ (roa : Roa) e. covers_slots roa.prefix c.args.prefix e) c.in-Some.place c.index-as_slice-place.result c.above-at.result stands here
    (ap (λ (roa : Roa). covers roa.prefix c.args.prefix) c.index-as_slice-place.is ∙ (sym c.covers.ensures.value ∙ c.if-covers.false)) (subst (λ (slot : Slot). IsLastCovering (map roa_slot roas) slot c.in-Some.place c.above-at.result) c.slot_of-slot.ensures last)
