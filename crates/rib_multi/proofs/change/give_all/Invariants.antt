use Rattle.attr_intern.specs.Table.{CameFrom}
use Rattle.rib_multi.specs.Uses.{refs_in, Moves}
use Rattle.rib_multi.proofs.change.give_all.Given as goal

-- What is left came from the table, and all else was given back.
abbrev pub invariant-loop-candidate : goal.invariant-loop-candidate
invariant-loop-candidate l = record {
  came : CameFrom l.table (refs_in l.candidate-iterator.rest.items);
  moves : Moves l.initial.table l.table (refs_in l.fn.candidates) (refs_in l.candidate-iterator.rest.items);
}
