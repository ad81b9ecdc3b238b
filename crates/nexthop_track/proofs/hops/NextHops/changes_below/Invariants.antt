use Rattle.std.proofs.Common.{◌≡◌, ◌++◌}
use Rattle.std.specs.List.{filter_map}
use Rattle.nexthop_track.specs.Hops.{Hops}
use Rattle.nexthop_track.specs.Changes.{answer_besides}
use Rattle.nexthop_track.proofs.hops.NextHops.changes_below.Given as goal

-- the answers so far, followed by those of the addresses that are left, are all
abbrev pub invariant-loop-addr : goal.invariant-loop-addr
invariant-loop-addr l =
    let hops : Hops = record { routes = l.self-inside.routes; qualify_default = l.self-inside.qualify_default; tracked = l.self-inside.tracked.keys } in
    l.changes ++ filter_map (answer_besides hops l.prefix l.valid) l.addr-iterator ≡ filter_map (answer_besides hops l.prefix l.valid) l.initial.addr-iterator
