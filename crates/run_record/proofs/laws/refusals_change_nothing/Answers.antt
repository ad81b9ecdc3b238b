use Rattle.run_record.proofs.Refused.{same_generation, same_under_way, same_world, same_sent, same_stalled, same_tables}
use Rattle.run_record.proofs.laws.refusals_change_nothing.Goals as goal

pub returns-clause-generation : goal.returns-clause-generation
returns-clause-generation c h event answer a r = same_generation h event answer a r

pub returns-clause-under_way : goal.returns-clause-under_way
returns-clause-under_way c h event answer a r = same_under_way h event answer a r

pub returns-clause-world : goal.returns-clause-world
returns-clause-world c h event answer a r = same_world h event answer a r

pub returns-clause-sent : goal.returns-clause-sent
returns-clause-sent c h event answer a r peer = same_sent h event answer a r peer

pub returns-clause-stalled : goal.returns-clause-stalled
returns-clause-stalled c h event answer a r peer = same_stalled h event answer a r peer

pub returns-clause-tables : goal.returns-clause-tables
returns-clause-tables c h event answer a r = same_tables h event answer a r
