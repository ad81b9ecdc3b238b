use Rattle.std.proofs.Common.{◌≡◌, ◌++◌, drop, flat_map}
use Rattle.conf_tree.specs.Canonical.{rule_line}
use Rattle.conf_print.proofs.rules.print_rules.Given as goal

-- the text so far, followed by what is to come, is the whole
abbrev pub invariant-loop-rule : goal.invariant-loop-rule
invariant-loop-rule l = l.text ++ flat_map (rule_line l.conf) (drop l.rule-index l.conf.rules) ≡ l.fn.text ++ flat_map (rule_line l.conf) l.conf.rules
