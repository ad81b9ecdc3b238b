use Rattle.std.proofs.Common.{◌≡◌, true}
use Rattle.std.specs.List.{list_all}
use Rattle.core_msgs.specs.declared.row.Table.TheVariants.{Held}
use Rattle.rde_core.specs.Rows.{is_row_of}
use Rattle.rde_core.proofs.showing.held_rows.Given as goal

-- The rows so far are routes.
abbrev pub invariant-loop-prefix : goal.invariant-loop-prefix
invariant-loop-prefix l = list_all (is_row_of Held) l.rows ≡ true
