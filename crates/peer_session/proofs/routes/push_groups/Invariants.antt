use Rattle.std.proofs.Common.{◌≡◌, ◌++◌}
use Rattle.std.specs.Vec.Iter.{into_iter_items}
use Rattle.peer_session.specs.Frames.{group_frames}
use Rattle.peer_session.proofs.routes.push_groups.Given as goal

abbrev pub invariant-loop-group : goal.invariant-loop-group
invariant-loop-group l =
    l.frames ++ group_frames l.fn.session l.fn.family l.left (into_iter_items l.group-iterator)
    ≡ l.fn.frames ++ group_frames l.fn.session l.fn.family l.fn.withdrawn l.fn.groups
