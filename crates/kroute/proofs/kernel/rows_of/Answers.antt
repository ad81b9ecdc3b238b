use Rattle.std.proofs.Common.{sym, subst}
use Rattle.kroute.specs.Rows.{Rows, IsByPrefix}
use Rattle.kroute.proofs.Lists.{none_by_prefix}
use Rattle.kroute.proofs.kernel.rows_of.Goals as goal

pub returns-in-None-clause-by_prefix : goal.returns-in-None-clause-by_prefix
returns-in-None-clause-by_prefix c = subst (λ (rows : Rows). IsByPrefix rows) (sym c.new.ensures) none_by_prefix
