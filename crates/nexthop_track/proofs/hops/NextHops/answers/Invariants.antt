use Rattle.std.proofs.Common.{◌≡◌, ◌++◌, map}
use Rattle.nexthop_track.specs.Changes.{answer_of}
use Rattle.nexthop_track.proofs.hops.NextHops.answers.Given as goal

-- the answers so far, followed by those that are left, are all
abbrev pub invariant-loop-addr : goal.invariant-loop-addr
invariant-loop-addr l = l.answers ++ map (answer_of l.self) l.addr-iterator ≡ map (answer_of l.self) l.initial.addr-iterator
