use Rattle.route_world.proofs.WideCandidates.{candidates_wide}
use Rattle.route_world.proofs.GoodExport.{export_wide, told_wide}
use Rattle.route_world.proofs.laws.numbers_keep_their_width.Goals as goal

pub returns-clause-candidates : goal.returns-clause-candidates
returns-clause-candidates c world rib prefix ready said = candidates_wide world rib prefix ready said

pub returns-clause-export : goal.returns-clause-export
returns-clause-export c conf facts neighbour prefix best attrs ready peer w e = export_wide conf facts neighbour prefix best attrs ready peer w e

pub returns-clause-told : goal.returns-clause-told
returns-clause-told c world session prefix attrs ready peer said e = told_wide world session prefix attrs ready peer said e
