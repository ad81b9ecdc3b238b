use Rattle.kroute.proofs.Agreement.{decoupled_is_empty}
use Rattle.parent_core.proofs.Settling.{coupled_has_wanted, rows_fit}
use Rattle.parent_core.proofs.laws.settled_tables_hold_what_is_wanted.Goals as goal

pub returns-clause-coupled : goal.returns-clause-coupled
returns-clause-coupled c = coupled_has_wanted

pub returns-clause-decoupled : goal.returns-clause-decoupled
returns-clause-decoupled c = λ h s held n t rows leads there told is old none. decoupled_is_empty t.phase t.wanted rows (rows_fit h s held n t rows leads there told) is old none
