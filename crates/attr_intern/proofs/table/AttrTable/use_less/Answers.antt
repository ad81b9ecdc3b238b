use Rattle.std.proofs.Common.{arith, refl}
use Rattle.std.proofs.lemmas.Grind.{common_steps}
use Rattle.attr_intern.specs.Kept.{one_less}
use Rattle.attr_intern.proofs.KeptSteps.{kept_one_counted}
use Rattle.attr_intern.proofs.table.AttrTable.use_less.Goals as goal

pub invariant_of-self-2 : goal.invariant_of-self-2
invariant_of-self-2 c =
    kept_one_counted c.self.inside.slots.slots _ _ c.args.number c.in-Some.shared.now (one_less c.in-Some.shared.now) (grind (arith, common_steps))
    (record { changed = grind (arith, common_steps); others = λ other differ. grind (arith, common_steps) })
    refl (grind (arith, common_steps)) c.self.invariant
