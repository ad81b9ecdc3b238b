use Rattle.std.proofs.Common.{◌≡◌, ◌++◌, drop}
use Rattle.conf_tree.specs.Checks.{named, rib_table_of}
use Rattle.conf_check.proofs.doubles.double_table.Given as goal

abbrev pub invariant-loop-line : goal.invariant-loop-line
invariant-loop-line l = l.tables.items ++ named rib_table_of (drop l.line-index l.lines) ≡ named rib_table_of l.lines
