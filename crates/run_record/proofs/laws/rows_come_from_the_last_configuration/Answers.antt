use Rattle.run_record.proofs.Rows.{rows_of_show, conf_of_reload}
use Rattle.run_record.proofs.laws.rows_come_from_the_last_configuration.Goals as goal

pub returns-clause-rows : goal.returns-clause-rows
returns-clause-rows c h words answer a e = rows_of_show h words answer a e

pub returns-clause-accepted : goal.returns-clause-accepted
returns-clause-accepted c h text answer g a e = conf_of_reload h text answer g a e
