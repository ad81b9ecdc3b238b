use Rattle.route_world.proofs.NetworkRows.{rows_are}
use Rattle.route_world.proofs.laws.loc_of_networks.Goals as goal

pub returns : goal.returns
returns c conf hops rib ascend = rows_are conf hops rib ascend
