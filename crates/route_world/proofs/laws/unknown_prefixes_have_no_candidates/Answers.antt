use Rattle.route_world.proofs.NoCandidates.{no_candidates}
use Rattle.route_world.proofs.laws.unknown_prefixes_have_no_candidates.Goals as goal

pub returns : goal.returns
returns c world rib prefix no_network none = no_candidates world rib prefix no_network none
