use Rattle.std.proofs.Common.{subst, refl}
use Rattle.attr_intern.specs.Table.{HasOneNumberEach, shared_at}
use Rattle.attr_intern.proofs.KeptSteps.{one_number_each, used_in}
use Rattle.attr_intern.proofs.Uses.{old_free}
use Rattle.attr_intern.proofs.table.AttrTable.distinct.Goals as goal

pub returns-clause-one_each : goal.returns-clause-one_each
returns-clause-one_each c = subst HasOneNumberEach c.self.view_is (one_number_each _ _ c.self.invariant)

pub returns-clause-in_use : goal.returns-clause-in_use
returns-clause-in_use c number = old_free c.args.self.now (used_in _ _ _ c.self.invariant c.self.view_is) number (shared_at c.args.self.now number) refl
