use Rattle.std.proofs.Common.{[], ◌∷◌}
use Rattle.rde_tables.proofs.Kept.{keeps_handed, stays_handed}
use Rattle.rde_tables.proofs.keeping.numbered_one.Goals as goal

pub returns-clause-keeps : goal.returns-clause-keeps
returns-clause-keeps c = keeps_handed c.args.table.now c.intern.new.self (c.in_ok-intern.field-0 ∷ []) c.in_ok-intern.ensures.hands

pub returns-clause-stays : goal.returns-clause-stays
returns-clause-stays c = stays_handed c.args.table.now c.intern.new.self c.intern.result c.intern.ensures.hands c.intern.ensures.err
