use Rattle.std.proofs.Common.{◌≡◌}
use Rattle.session_core.specs.Courses.{courses}
use Rattle.session_core.specs.Reloads.{plan_of, reloads}
use Rattle.session_core.proofs.neighbours.Neighbours.apply.Given as goal

-- what is left of the plan, behind what was done of it, is the whole
abbrev pub invariant-loop-peer : goal.invariant-loop-peer
invariant-loop-peer l = reloads l.peer-iterator l.fn.now (courses l.self l.done) ≡ reloads (plan_of l.fn.conf l.fn.self) l.fn.now (courses l.fn.self l.fn.done)
