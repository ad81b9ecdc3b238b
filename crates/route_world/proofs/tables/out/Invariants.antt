use Rattle.std.proofs.Common.{◌≡◌, ◌++◌, drop}
use Rattle.std.specs.List.{flat_map}
use Rattle.route_world.specs.Tables.{entry_if, told_at}
use Rattle.route_world.proofs.tables.out.Given as goal

-- the routes so far, followed by those of the prefixes that are left, are all
abbrev pub invariant-loop-prefix : goal.invariant-loop-prefix
invariant-loop-prefix g l =
    l.routes ++ flat_map (entry_if (told_at l.world l.session)) (drop l.prefix-index l.prefix-items)
    ≡ l.initial.routes ++ flat_map (entry_if (told_at l.world l.session)) l.prefix-items
