use Rattle.route_world.proofs.GoodExport.{export_local_pref}
use Rattle.route_world.proofs.laws.local_pref_is_told_within_the_own_as.Goals as goal

pub returns : goal.returns
returns c conf facts neighbour prefix best attrs e = export_local_pref conf facts neighbour prefix best attrs e
