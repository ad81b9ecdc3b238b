use Rattle.route_world.proofs.GoodCandidates.{candidates_good}
use Rattle.route_world.proofs.GoodExport.{export_good, told_good}
use Rattle.route_world.proofs.laws.what_is_told_may_be_sent.Goals as goal

pub returns-clause-candidates : goal.returns-clause-candidates
returns-clause-candidates c world rib prefix good = candidates_good world rib prefix good

pub returns-clause-export : goal.returns-clause-export
returns-clause-export c conf facts neighbour prefix best attrs good e = export_good conf facts neighbour prefix best attrs good e

pub returns-clause-told : goal.returns-clause-told
returns-clause-told c world session neighbour prefix attrs good is_neighbour e = told_good world session neighbour prefix attrs good is_neighbour e
