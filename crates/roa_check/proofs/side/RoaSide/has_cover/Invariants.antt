use Rattle.net_base.specs.Prefix.{covers}
use Rattle.roa_check.specs.Table.{roa_slot, slot_of}
use Rattle.roa_check.specs.Walk.{Walked, left_to_walk}
use Rattle.roa_check.proofs.side.RoaSide.has_cover.Given as goal

abbrev pub invariant-loop-at : goal.invariant-loop-at
invariant-loop-at l = Walked roa_slot (λ roa. covers roa.prefix l.prefix) l.self (slot_of l.prefix) l.at

abbrev pub decreases-loop-at : goal.decreases-loop-at
decreases-loop-at l = left_to_walk l.at
