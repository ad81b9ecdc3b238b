use Rattle.core_msgs.specs.declared.row.Table.TheVariants.{Held}
use Rattle.rde_core.specs.Rows.{KeepsKind}
use Rattle.rde_core.proofs.showing.push_held.Given as goal

-- The rows so far are routes, where they were before.
abbrev pub invariant-loop-peer : goal.invariant-loop-peer
invariant-loop-peer l = KeepsKind Held l.fn.rows l.rows
