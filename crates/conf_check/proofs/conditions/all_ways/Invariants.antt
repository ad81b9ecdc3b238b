use Rattle.std.proofs.Common.{◌≡◌, ◌++◌, drop, map}
use Rattle.conf_tree.specs.Flat.{ways}
use Rattle.conf_check.proofs.conditions.all_ways.Given as goal

abbrev pub invariant-loop-condition : goal.invariant-loop-condition
invariant-loop-condition l = l.all.items ++ map (ways l.conf) (drop l.condition-index l.conditions) ≡ map (ways l.conf) l.conditions
