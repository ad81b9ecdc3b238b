use Rattle.std.proofs.Common.{◌≡◌, ◌++◌, drop}
use Rattle.std.specs.List.{flat_map}
use Rattle.route_world.specs.Loc.{told_to}
use Rattle.route_world.proofs.counting.push_told.Given as goal

-- those so far, followed by those of the sessions that are left, are all
abbrev pub invariant-loop-session : goal.invariant-loop-session
invariant-loop-session g l =
    l.all ++ flat_map (told_to l.world l.prefix) (drop l.session-index l.session-items)
    ≡ l.initial.all ++ flat_map (told_to l.world l.prefix) l.session-items
