use Rattle.std.proofs.Common.{◌≡◌, ◌&&◌, ◌||◌, ◌<◌, ◌≤◌, ℕ, false, nat_lt}
use Rattle.net_base.specs.Bits.{prefix_of}
use Rattle.net_base.specs.PrefixSet.{is_in}
use Rattle.nexthop_track.specs.Hops.{is_other}
use Rattle.nexthop_track.proofs.below.is_reached.Given as goal

-- none of the prefixes so far counts and is there
abbrev pub invariant-loop-len : goal.invariant-loop-len
invariant-loop-len l = (k : ℕ) → k < l.len → ((is_other l.besides (prefix_of l.addr k) && (l.qualify_default || nat_lt 0 (prefix_of l.addr k).len)) && is_in l.routes (prefix_of l.addr k)) ≡ false
