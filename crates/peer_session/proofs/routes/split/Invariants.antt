use Rattle.std.proofs.Common.{◌≡◌, ◌++◌}
use Rattle.std.specs.Vec.Iter.{into_iter_items}
use Rattle.net_base.specs.declared.addr.Family.TheVariants.{V4, V6}
use Rattle.peer_session.specs.Frames.{groups_in}
use Rattle.peer_session.proofs.routes.split.Given as goal

abbrev pub invariant-loop-group : goal.invariant-loop-group
invariant-loop-group l =
    (l.v4 ++ groups_in V4 (into_iter_items l.group-iterator) ≡ l.fn.v4 ++ groups_in V4 l.fn.groups)
    × (l.v6 ++ groups_in V6 (into_iter_items l.group-iterator) ≡ l.fn.v6 ++ groups_in V6 l.fn.groups)
