use Rattle.std.proofs.Common.{◌≡◌, ◌++◌, drop, map}
use Rattle.route_world.specs.Networks.{network_row}
use Rattle.route_world.proofs.networks.network_rows.Given as goal

-- the rows so far, followed by those of the networks that are left, are all
abbrev pub invariant-loop-network : goal.invariant-loop-network
invariant-loop-network l =
    l.rows ++ map (network_row l.conf) (drop l.network-index l.network-items)
    ≡ l.initial.rows ++ map (network_row l.conf) l.network-items
