use Rattle.std.proofs.Common.{◌≡◌, ◌++◌}
use Rattle.kroute.proofs.kernel.entries_of.Given as goal

-- the rows so far, followed by those that are left, are all
abbrev pub invariant-loop-prefix : goal.invariant-loop-prefix
invariant-loop-prefix l = l.list ++ l.prefix-iterator ≡ l.initial.prefix-iterator
