use Rattle.run_record.proofs.Generations.{accepted_is_next, never_falls, under_way_is_last}
use Rattle.run_record.proofs.laws.generations_climb.Goals as goal

pub returns-clause-accepted : goal.returns-clause-accepted
returns-clause-accepted c h event answer g a e = accepted_is_next h event answer g a e

pub returns-clause-never_falls : goal.returns-clause-never_falls
returns-clause-never_falls c h event answer a = never_falls h event answer a

pub returns-clause-under_way : goal.returns-clause-under_way
returns-clause-under_way c h g run e = under_way_is_last h g run e
