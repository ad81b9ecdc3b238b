use Rattle.std.proofs.Common.{ℕ, length}
use Rattle.std.specs.List.{flat_map}
use Rattle.std.specs.Map.{values_of}
use Rattle.attr_intern.specs.Table.{CameFrom}
use Rattle.rib_multi.specs.Uses.{refs_of_row, Moves}
use Rattle.rib_multi.proofs.rib.give_rows.Given as goal

-- What is left came from the table, and all else was given back.
abbrev pub invariant-loop-row : goal.invariant-loop-row
invariant-loop-row l = record {
  came : CameFrom l.table (flat_map refs_of_row (values_of l.rows.entries));
  moves : Moves l.initial.table l.table (flat_map refs_of_row (values_of l.initial.rows.entries)) (flat_map refs_of_row (values_of l.rows.entries));
}

abbrev pub decreases-loop-row : goal.decreases-loop-row
decreases-loop-row l = length l.rows.entries
