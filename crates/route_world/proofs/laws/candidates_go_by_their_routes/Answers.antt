use Rattle.route_world.proofs.SameCandidates.{same_candidates, same_hops}
use Rattle.route_world.proofs.laws.candidates_go_by_their_routes.Goals as goal

pub returns-clause-hops : goal.returns-clause-hops
returns-clause-hops c one other rib prefix same = same_hops one other rib prefix same

pub returns-clause-candidates : goal.returns-clause-candidates
returns-clause-candidates c one other rib prefix same answers = same_candidates one other rib prefix same answers
