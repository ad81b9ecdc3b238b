use Rattle.std.proofs.Common.{◌≡◌, map, fold}
use Rattle.std.specs.BTreeSet.{insert_key}
use Rattle.net_base.specs.Order.{prefix_cmp}
use Rattle.attr_model.proofs.route_table.RouteTable.add_prefixes.Given as goal

-- the set so far, with what is left, is the set with all
abbrev pub invariant-loop-prefix : goal.invariant-loop-prefix
invariant-loop-prefix l =
    fold (insert_key prefix_cmp) l.known (map (λ route. route.0) l.prefix-iterator)
    ≡ fold (insert_key prefix_cmp) l.initial.known (map (λ route. route.0) l.self)
