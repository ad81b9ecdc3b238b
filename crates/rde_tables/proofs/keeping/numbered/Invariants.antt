use Rattle.std.proofs.Common.{◌≡◌, ◌+◌, [], length}
use Rattle.rib_multi.specs.Uses.{refs_in}
use Rattle.rde_tables.specs.Uses.{Keeps}
use Rattle.rde_tables.proofs.keeping.numbered.Given as goal

-- The candidates so far have a use each.
abbrev pub invariant-loop-one : goal.invariant-loop-one
invariant-loop-one l = record {
  keeps : Keeps l.fn.table l.table [] (refs_in l.candidates);
  few : length l.candidates + length l.one-iterator.rest.items ≡ length l.fn.found;
}
