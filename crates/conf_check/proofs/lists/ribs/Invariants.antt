use Rattle.std.proofs.Common.{◌≡◌, ◌++◌, drop}
use Rattle.conf_tree.specs.Said.{said, rib_of}
use Rattle.conf_check.proofs.lists.ribs.Given as goal

abbrev pub invariant-loop-line : goal.invariant-loop-line
invariant-loop-line l = l.ribs ++ said rib_of (drop l.line-index l.lines) ≡ said rib_of l.lines
