use Rattle.kroute.proofs.Agreement.{coupled_holds, decoupled_is_empty}
use Rattle.kroute.proofs.laws.settled_tables_hold_what_is_wanted.Goals as goal

pub returns-clause-coupled : goal.returns-clause-coupled
returns-clause-coupled c = λ held s n t rows agrees there told is none. coupled_holds t.phase t.wanted rows (agrees n t rows there told) is none

pub returns-clause-decoupled : goal.returns-clause-decoupled
returns-clause-decoupled c = λ held s n t rows agrees there told is old none. decoupled_is_empty t.phase t.wanted rows (agrees n t rows there told) is old none
