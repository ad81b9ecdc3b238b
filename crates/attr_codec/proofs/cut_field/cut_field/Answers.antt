use Rattle.std.proofs.Common.{refl}
use Rattle.attr_codec.specs.Field.{Attribute}
use Rattle.attr_codec.proofs.Cutting.{not_empty}
use Rattle.attr_codec.proofs.Noting.{walk_begin, walk_on, by_place, walk_fault, walk_cut, walk_end, walk_notes}
use Rattle.attr_codec.proofs.cut_field.cut_field.Goals as goal

pub loop-left-init : goal.loop-left-init
loop-left-init c = rw (c.new-left.ensures, c.new-kept.ensures) (walk_begin c.args.enc c.args.bytes.now)

pub returns-in_default-clause-fault : goal.returns-in_default-clause-fault
returns-in_default-clause-fault c =
    walk_cut c.args.enc c.args.bytes.now c.loop-left.left c.loop-left.places c.loop-left.kept c.loop-left.invariant (not_empty c.loop-left.left c.loop-left-test.ensures.1) c.in_default.ensures.attribute

pub returns-in-Some-clause-fault : goal.returns-in-Some-clause-fault
returns-in-Some-clause-fault c =
    let a : Attribute = record { flags = c.in-Ok.attribute.flags; kind = c.in-Ok.attribute.kind; value = c.in-Ok.attribute.value.now } in
    walk_fault c.args.enc c.args.bytes.now c.loop-left.left c.next_attribute.new.left c.loop-left.places c.loop-left.kept a c.in-Some.sub c.loop-left.invariant (not_empty c.loop-left.left c.loop-left-test.ensures.1) c.in-Ok.ensures.attribute
    (by_place c.args.enc _ _ a _ c.has_place.ensures c.in-Some.ensures)

pub loop-left-preserved : goal.loop-left-preserved
loop-left-preserved c =
    let a : Attribute = record { flags = c.in-Ok.attribute.flags; kind = c.in-Ok.attribute.kind; value = c.in-Ok.attribute.value.now } in
    rw (c.note.ensures, c.len-place.ensures, c.with-kept.ensures)
    (walk_on c.args.enc c.args.bytes.now c.loop-left.left c.next_attribute.new.left c.loop-left.places c.loop-left.kept a c.loop-left.invariant (not_empty c.loop-left.left c.loop-left-test.ensures.1) c.in-Ok.ensures.attribute c.in-Ok.ensures.one_byte
    (by_place c.args.enc _ _ a _ c.has_place.ensures c.in_default-fault_of.ensures))

pub invariant_of-result : goal.invariant_of-result
invariant_of-result c = walk_notes c.args.enc c.args.bytes.now c.loop-left.left c.loop-left.places c.loop-left.kept c.loop-left.invariant (c.loop-left-test.ensures.0 refl)

pub returns-clause-fault : goal.returns-clause-fault
returns-clause-fault c = walk_end c.args.enc c.args.bytes.now c.loop-left.left c.loop-left.places c.loop-left.kept c.loop-left.invariant (c.loop-left-test.ensures.0 refl)
