use Rattle.std.proofs.Common.{◌≡◌, ◌++◌, drop, map}
use Rattle.conf_tree.specs.declared.rule.Condition.TheVariants as condition
use Rattle.conf_check.proofs.conditions.one_of_numbers.Given as goal

abbrev pub invariant-loop-number : goal.invariant-loop-number
invariant-loop-number l = l.members ++ map (condition.PathNumber l.part) (drop l.number-index l.numbers) ≡ map (condition.PathNumber l.part) l.numbers
