use Rattle.std.proofs.Common.{◌≡◌, true}
use Rattle.std.specs.List.{list_all}
use Rattle.core_msgs.specs.declared.row.Table.TheVariants.{Rib}
use Rattle.rde_core.specs.Rows.{is_row_of}
use Rattle.rde_core.proofs.showing.rib_rows.Given as goal

-- The rows so far are routes.
abbrev pub invariant-loop-route : goal.invariant-loop-route
invariant-loop-route l = list_all (is_row_of (Rib l.rib)) l.rows ≡ true
