use Rattle.kroute.proofs.Agreement.{want_agrees, want_none_agrees, couple_agrees, decouple_agrees, add_agrees, remove_agrees, unit_agrees}
use Rattle.kroute.proofs.laws.tables_agree_with_the_kernel.Goals as goal

pub returns-clause-set : goal.returns-clause-set
returns-clause-set c = want_agrees

pub returns-clause-del : goal.returns-clause-del
returns-clause-del c = want_none_agrees

pub returns-clause-couple : goal.returns-clause-couple
returns-clause-couple c = couple_agrees

pub returns-clause-decouple : goal.returns-clause-decouple
returns-clause-decouple c = decouple_agrees

pub returns-clause-add : goal.returns-clause-add
returns-clause-add c = add_agrees

pub returns-clause-remove : goal.returns-clause-remove
returns-clause-remove c = remove_agrees

pub returns-clause-unit : goal.returns-clause-unit
returns-clause-unit c = unit_agrees
