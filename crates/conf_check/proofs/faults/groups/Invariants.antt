use Rattle.std.proofs.Common.{◌≡◌, ◌++◌, drop}
use Rattle.conf_tree.specs.Checks.{groups_of}
use Rattle.conf_check.proofs.faults.groups.Given as goal

abbrev pub invariant-loop-line : goal.invariant-loop-line
invariant-loop-line l = l.groups.items ++ groups_of (drop l.line-index l.lines) ≡ groups_of l.lines
