-- The answers that change from one state of the next hops to another.
use Rattle.std.specs.Prelude.{Bool, List, filter, filter_map, Option, Some, None, if◌then◌else◌}
use Rattle.net_base.specs.declared.addr.Addr.{Addr}
use Rattle.net_base.specs.declared.prefix.Prefix.{Prefix}
use Rattle.net_base.specs.Prefix.{covers}
use Rattle.nexthop_track.specs.declared.hops.HopChange.{HopChange}
use Rattle.nexthop_track.specs.Answers.{differ}
use Rattle.nexthop_track.specs.Hops.{Hops, host_of, is_valid, is_valid_besides}

-- the answer for an address
abbrev pub answer_of : Hops → Addr → HopChange
answer_of hops a = record { addr = a; valid = is_valid hops a }

-- the new answer, where it differs from the old one
abbrev pub answer_changed : Hops → Hops → Addr → Option HopChange
answer_changed old new a = if differ (is_valid old a) (is_valid new a) then Some (answer_of new a) else None

-- each tracked address whose answer changed, with the new one, by address
unfoldable pub answers_changed : Hops → Hops → List HopChange
answers_changed old new = filter_map (answer_changed old new) new.tracked

-- this answer, where no route but the one left out makes the address valid
abbrev pub answer_besides : Hops → Prefix → Bool → Addr → Option HopChange
answer_besides hops left_out valid a = if is_valid_besides hops left_out a then None else Some (record { addr = a; valid = valid })

-- this answer for each tracked address that the route covers and no other makes valid
abbrev pub answers_below : Hops → Prefix → Bool → List HopChange
answers_below hops p valid = filter_map (answer_besides hops p valid) (filter (λ a. covers p (host_of a)) hops.tracked)
