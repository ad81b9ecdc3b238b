use Rattle.net_base.specs.Prefix.{covers}
use Rattle.roa_check.specs.Table.{slot_of}
use Rattle.conf_sets.specs.Tables.{range_slot}
use Rattle.roa_check.specs.Walk.{Walked, left_to_walk}
use Rattle.conf_sets.proofs.range_side.RangeSide.covers.Given as goal

abbrev pub invariant-loop-at : goal.invariant-loop-at
invariant-loop-at l = Walked range_slot (λ range. covers range.prefix l.prefix) l.self (slot_of l.prefix) l.at

abbrev pub decreases-loop-at : goal.decreases-loop-at
decreases-loop-at l = left_to_walk l.at
