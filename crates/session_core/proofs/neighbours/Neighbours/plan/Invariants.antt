use Rattle.std.proofs.Common.{◌≡◌}
use Rattle.std.specs.Slice.Iter.{iter_rest}
use Rattle.session_core.specs.Reloads.{plan_of, planned}
use Rattle.session_core.proofs.neighbours.Neighbours.plan.Given as goal

abbrev pub invariant-loop-neighbour : goal.invariant-loop-neighbour
invariant-loop-neighbour l = planned l.fn.conf (iter_rest l.neighbour-iterator) l.plan.entries ≡ plan_of l.fn.conf l.fn.self
