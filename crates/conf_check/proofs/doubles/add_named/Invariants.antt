use Rattle.std.proofs.Common.{◌≡◌, ◌++◌, drop}
use Rattle.conf_tree.specs.Checks.{named}
use Rattle.conf_check.specs.Doubles.{name_of}
use Rattle.conf_check.proofs.doubles.add_named.Given as goal

abbrev pub invariant-loop-line : goal.invariant-loop-line
invariant-loop-line l = l.names.items ++ named (name_of l.kind) (drop l.line-index l.lines) ≡ l.initial.names.items ++ named (name_of l.kind) l.lines
