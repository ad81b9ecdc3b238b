use Rattle.std.proofs.Common.{◌≡◌, ◌++◌, drop}
use Rattle.std.specs.List.{flat_map}
use Rattle.route_world.specs.Loc.{held_at}
use Rattle.route_world.proofs.counting.push_held.Given as goal

-- those so far, followed by those of the sessions that are left, are all
abbrev pub invariant-loop-session : goal.invariant-loop-session
invariant-loop-session l =
    l.all ++ flat_map (held_at l.prefix) (drop l.session-index l.sessions)
    ≡ l.initial.all ++ flat_map (held_at l.prefix) l.sessions
