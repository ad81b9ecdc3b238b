use Rattle.parent_core.proofs.Bounding.{frame_within, route_within, unit_within}
use Rattle.parent_core.proofs.laws.bounds_stay.Goals as goal

pub returns-clause-frame : goal.returns-clause-frame
returns-clause-frame c = frame_within

pub returns-clause-route : goal.returns-clause-route
returns-clause-route c = route_within

pub returns-clause-unit : goal.returns-clause-unit
returns-clause-unit c = unit_within
