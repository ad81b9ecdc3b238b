use Rattle.std.proofs.Common.{◌≡◌, ◌++◌}
use Rattle.std.specs.Map.{keys_of}
use Rattle.kroute.proofs.tables.Tables.numbers.Given as goal

-- the numbers so far, followed by those that are left, are all
abbrev pub invariant-loop-number : goal.invariant-loop-number
invariant-loop-number l = l.numbers ++ keys_of l.number-iterator ≡ keys_of l.initial.number-iterator
