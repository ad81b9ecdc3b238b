use Rattle.std.proofs.Common.{◌≡◌, map, take}
use Rattle.conf_sets.specs.Tables.{range_slot}
use Rattle.conf_sets.proofs.range_side.index_of.Given as goal

abbrev pub invariant-loop-range : goal.invariant-loop-range
invariant-loop-range l = l.index ≡ map range_slot (take l.range-index l.ranges)
