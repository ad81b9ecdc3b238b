use Rattle.core_msgs.specs.declared.row.Table.TheVariants.{Told}
use Rattle.rde_core.specs.Rows.{KeepsKind}
use Rattle.rde_core.proofs.showing.push_told.Given as goal

-- The rows so far are of what was told, where they were before.
abbrev pub invariant-loop-peer : goal.invariant-loop-peer
invariant-loop-peer l = KeepsKind Told l.fn.rows l.rows
