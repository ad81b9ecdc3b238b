use Rattle.std.proofs.Common.{◌≡◌, fold, map, drop}
use Rattle.std.specs.BTreeSet.{insert_key}
use Rattle.net_base.specs.Order.{prefix_cmp}
use Rattle.route_world.proofs.tables.add_networks.Given as goal

-- the set so far, with what is left, is the set with all
abbrev pub invariant-loop-network : goal.invariant-loop-network
invariant-loop-network l =
    fold (insert_key prefix_cmp) l.known (map (λ network. network.prefix) (drop l.network-index l.networks))
    ≡ fold (insert_key prefix_cmp) l.initial.known (map (λ network. network.prefix) l.networks)
