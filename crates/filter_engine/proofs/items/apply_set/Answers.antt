use Rattle.std.proofs.Common.{arith, sym, subst}
use Rattle.std.proofs.lemmas.Grind.{common_steps}
use Rattle.attr_model.specs.Valid.{IsValid}
use Rattle.filter_engine.proofs.ItemsValid.{item_valid}
use Rattle.filter_engine.proofs.items.apply_set.Goals as goal

pub loop-item-preserved : goal.loop-item-preserved
loop-item-preserved c = record {
  done = grind (arith, common_steps);
  valid = λ before. subst IsValid (sym c.in_ok-apply_item.ensures.ok) (item_valid c.args.context.now c.loop-item.attrs c.item-item.result (c.loop-item.invariant.valid before));
}
