use Rattle.std.proofs.Common.{◌≡◌, []}
use Rattle.std.specs.Map.{keys_of}
use Rattle.session_core.specs.Reloads.{leaving}
use Rattle.session_core.proofs.neighbours.Neighbours.plan_to_leave.Given as goal

abbrev pub invariant-loop-peer : goal.invariant-loop-peer
invariant-loop-peer l = leaving l.peer-iterator l.plan.entries ≡ leaving (keys_of l.fn.self) []
