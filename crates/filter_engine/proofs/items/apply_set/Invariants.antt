use Rattle.std.proofs.Common.{◌≡◌, drop}
use Rattle.attr_model.specs.Valid.{IsValid}
use Rattle.filter_engine.specs.Items.{with_items}
use Rattle.filter_engine.proofs.items.apply_set.Given as goal

abbrev pub invariant-loop-item : goal.invariant-loop-item
invariant-loop-item l = record {
  done : with_items l.context l.attrs (drop l.item-index l.item-items) ≡ with_items l.context l.initial.attrs l.item-items;
  valid : IsValid l.initial.attrs → IsValid l.attrs;
}
