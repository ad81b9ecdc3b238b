use Rattle.route_world.proofs.ToldBest.{told_same}
use Rattle.route_world.proofs.laws.told_goes_by_the_best.Goals as goal

pub returns : goal.returns
returns c one other session twin prefix conf peer facts best = told_same one other session twin prefix conf peer facts best
