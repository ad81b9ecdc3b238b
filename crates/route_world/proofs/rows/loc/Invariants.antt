use Rattle.std.proofs.Common.{◌≡◌, ◌++◌, drop}
use Rattle.std.specs.List.{flat_map}
use Rattle.route_world.specs.Loc.{loc_at}
use Rattle.route_world.proofs.rows.loc.Given as goal

-- the rows so far, followed by those of the prefixes that are left, are all
abbrev pub invariant-loop-prefix : goal.invariant-loop-prefix
invariant-loop-prefix g l =
    l.rows ++ flat_map (loc_at l.world l.rib) (drop l.prefix-index l.prefix-items)
    ≡ l.initial.rows ++ flat_map (loc_at l.world l.rib) l.prefix-items
