use Rattle.std.proofs.Common.{◌≡◌, map, take}
use Rattle.conf_sets.proofs.tables.range_tables.Given as goal

abbrev pub invariant-loop-set : goal.invariant-loop-set
invariant-loop-set l = l.tables.items ≡ map (λ set. set.entries) (take l.set-index l.sets)
