use Rattle.std.proofs.Common.{◌≡◌, ◌++◌, drop}
use Rattle.conf_check.proofs.choices.duplicate_all.Given as goal

abbrev pub invariant-loop-entry : goal.invariant-loop-entry
invariant-loop-entry g l = l.copy ++ drop l.entry-index l.list ≡ l.list
