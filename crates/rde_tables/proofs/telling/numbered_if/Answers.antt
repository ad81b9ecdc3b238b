use Rattle.std.proofs.Common.{[], ◌∷◌}
use Rattle.rde_tables.proofs.Kept.{keeps_handed, stays_handed}
use Rattle.rde_tables.proofs.telling.numbered_if.Goals as goal

pub returns-in_ok-intern-in-Some-clause-keeps : goal.returns-in_ok-intern-in-Some-clause-keeps
returns-in_ok-intern-in-Some-clause-keeps c = keeps_handed c.args.table.now c.intern.new.self (c.in_ok-intern-in-Some.field-0 ∷ []) c.in_ok-intern-in-Some.ensures.hands

pub returns-in_ok-intern-in-Some-clause-stays : goal.returns-in_ok-intern-in-Some-clause-stays
returns-in_ok-intern-in-Some-clause-stays c = stays_handed c.args.table.now c.intern.new.self c.intern.result c.intern.ensures.hands c.intern.ensures.err
