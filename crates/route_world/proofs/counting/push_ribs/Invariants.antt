use Rattle.std.proofs.Common.{◌≡◌, ◌++◌}
use Rattle.std.specs.List.{flat_map}
use Rattle.route_world.specs.Loc.{below, rib_at}
use Rattle.route_world.proofs.counting.push_ribs.Given as goal

-- those of the RIBs so far are there
abbrev pub invariant-loop-rib : goal.invariant-loop-rib
invariant-loop-rib g l = l.all ≡ l.initial.all ++ flat_map (rib_at l.world l.prefix) (below l.rib)
