use Rattle.std.specs.List.{AllByRecursion}
use Rattle.attr_intern.specs.Table.{IsOf}
use Rattle.adj_rib_out.specs.Rows.{kept_in}
use Rattle.adj_rib_out.specs.Uses.{Moves}
use Rattle.adj_rib_out.proofs.rows.Rows.end.Given as goal

-- what is held is what is left
abbrev pub invariant-loop-row : goal.invariant-loop-row
invariant-loop-row l = Moves l.fn.table l.table (kept_in l.fn.self) (kept_in l.row-iterator) × AllByRecursion (IsOf l.fn.table) (kept_in l.row-iterator)
