use Rattle.std.proofs.Common.{◌≡◌, ◌++◌, drop, flat_map}
use Rattle.conf_tree.specs.Canonical.{condition_behind}
use Rattle.conf_print.proofs.rules.print_conditions.Given as goal

-- the text so far, followed by what is to come, is the whole
abbrev pub invariant-loop-condition : goal.invariant-loop-condition
invariant-loop-condition l = l.text ++ flat_map (condition_behind l.conf) (drop l.condition-index l.conditions) ≡ l.fn.text ++ flat_map (condition_behind l.conf) l.conditions
