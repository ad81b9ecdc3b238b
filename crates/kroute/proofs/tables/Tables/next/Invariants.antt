use Rattle.std.proofs.Common.{ℕ, Option}
use Rattle.kroute.specs.declared.phase.Work.{Work}
use Rattle.kroute.proofs.Lists.{IsFirst}
use Rattle.kroute.proofs.tables.Tables.next.Given as goal

-- what is the first of the tables that are left is the first of all
abbrev pub invariant-loop-number : goal.invariant-loop-number
invariant-loop-number l = (found : Option (ℕ × Work)) → IsFirst l.number-iterator found → IsFirst l.initial.number-iterator found
