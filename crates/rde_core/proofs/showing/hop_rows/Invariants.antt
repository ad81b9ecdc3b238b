use Rattle.std.proofs.Common.{◌≡◌, true}
use Rattle.std.specs.List.{list_all}
use Rattle.core_msgs.specs.declared.row.Table.TheVariants.{Nexthops}
use Rattle.rde_core.specs.Rows.{is_row_of}
use Rattle.rde_core.proofs.showing.hop_rows.Given as goal

-- The rows so far are next hops.
abbrev pub invariant-loop-hop : goal.invariant-loop-hop
invariant-loop-hop l = list_all (is_row_of Nexthops) l.rows ≡ true
