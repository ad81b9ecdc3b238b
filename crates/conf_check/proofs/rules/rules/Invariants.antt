use Rattle.std.proofs.Common.{◌≡◌, ◌++◌, drop}
use Rattle.std.specs.Prelude.{flat_map}
use Rattle.conf_tree.specs.Said.{said, rule_of}
use Rattle.conf_tree.specs.Flat.{flat_rules}
use Rattle.conf_check.proofs.rules.rules.Given as goal

abbrev pub invariant-loop-line : goal.invariant-loop-line
invariant-loop-line l = l.rules ++ flat_map (flat_rules l.conf) (said rule_of (drop l.line-index l.lines)) ≡ flat_map (flat_rules l.conf) (said rule_of l.lines)
