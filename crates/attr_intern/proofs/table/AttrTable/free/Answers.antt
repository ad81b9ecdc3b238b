use Rattle.std.proofs.Common.{sym}
use Rattle.attr_intern.proofs.KeptSteps.{kept_freed}
use Rattle.attr_intern.proofs.table.AttrTable.free.Goals as goal

pub invariant_of-self : goal.invariant_of-self
invariant_of-self c =
    let step = c.in-Some.ensures in
    kept_freed c.self.inside.slots.slots _ c.self.inside.numbers.entries _ c.args.number c.in-Some.shared (sym step.value) (record { changed = step.updates.changed; others = step.updates.others }) c.remove.ensures.updates.0 c.self.invariant
