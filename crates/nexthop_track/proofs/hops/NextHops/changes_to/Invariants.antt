use Rattle.std.proofs.Common.{◌≡◌, ◌++◌}
use Rattle.std.specs.List.{filter_map}
use Rattle.nexthop_track.specs.Hops.{Hops}
use Rattle.nexthop_track.specs.Changes.{answer_changed}
use Rattle.nexthop_track.proofs.hops.NextHops.changes_to.Given as goal

-- the answers so far, followed by those of the addresses that are left, are all
abbrev pub invariant-loop-addr : goal.invariant-loop-addr
invariant-loop-addr l = let new : Hops = record l.self { qualify_default = l.on } in
    l.changes ++ filter_map (answer_changed l.self new) l.addr-iterator ≡ filter_map (answer_changed l.self new) l.initial.addr-iterator
