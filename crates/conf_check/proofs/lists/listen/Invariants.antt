use Rattle.std.proofs.Common.{◌≡◌, ◌++◌, drop}
use Rattle.conf_tree.specs.Said.{said, listen_of}
use Rattle.conf_check.proofs.lists.listen.Given as goal

abbrev pub invariant-loop-line : goal.invariant-loop-line
invariant-loop-line l = l.listen ++ said listen_of (drop l.line-index l.lines) ≡ said listen_of l.lines
