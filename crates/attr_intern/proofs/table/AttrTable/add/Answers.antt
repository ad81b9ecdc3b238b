use Rattle.std.proofs.Common.{Some, cond, sym, ap, ◌∙◌, refl}
use Rattle.attr_model.specs.contracts.attrs.AttrsPartialEq.TheImpl.{eq-value as attrs_eq}
use Rattle.attr_intern.specs.Table.{attrs_at}
use Rattle.attr_intern.specs.Kept.{number_of, first_of}
use Rattle.attr_intern.proofs.KeptSteps.{kept_same, kept_added}
use Rattle.attr_intern.proofs.table.AttrTable.add.Goals as goal

pub invariant_of-self-in_err-insert : goal.invariant_of-self-in_err-insert
invariant_of-self-in_err-insert c = kept_same _ _ _ _ (ap (λ slab. slab.slots) c.reserve.ensures.rest_kept) c.in_err-insert.ensures.err c.self.invariant

pub invariant_of-self-2 : goal.invariant_of-self-2
invariant_of-self-2 c =
    let slots = ap (λ slab. slab.slots) c.reserve.ensures.rest_kept in
    let step = c.insert_reserved-number.ensures in
    kept_added c.reserve.new.self.slots _ c.self.inside.numbers.entries _ c.insert_reserved-number.result c.args.hashed
    step.was_vacant
    (record { changed = step.updates.changed ∙ ap (λ attrs. Some (first_of attrs)) c.in_ok-share.ensures; others = step.updates.others })
    (λ other is. c.requires other (ap (λ table. attrs_at table other) (sym (slots ∙ c.self.view_is)) ∙ is))
    (λ key. c.in_ok-insert.ensures.updates.0 key ∙ ap (λ number. cond (attrs_eq.it c.args.hashed key) (Some number) (number_of c.self.inside.numbers.entries key)) (c.vacant_key.ensures.value ∙ sym step.key))
    (kept_same _ _ _ _ slots refl c.self.invariant)
