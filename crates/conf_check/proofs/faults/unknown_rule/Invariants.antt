use Rattle.std.proofs.Common.{◌≡◌, drop}
use Rattle.std.specs.Prelude.{option_map, find}
use Rattle.conf_tree.specs.Checks.{is_unknown_rule}
use Rattle.conf_check.proofs.faults.unknown_rule.Given as goal

abbrev pub invariant-loop-line : goal.invariant-loop-line
invariant-loop-line l = option_map (λ s. s.line) (find (λ s. is_unknown_rule l.conf l.groups.items s.statement) (drop l.line-index l.lines)) ≡ option_map (λ s. s.line) (find (λ s. is_unknown_rule l.conf l.groups.items s.statement) l.lines)
