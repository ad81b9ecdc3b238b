use Rattle.std.proofs.Common.{◌∷◌}
use Rattle.adj_rib_in.specs.Uses.{kept}
use Rattle.rde_tables.specs.Uses.{Keeps}
use Rattle.rde_tables.proofs.holding.hold_all.Given as goal

-- The routes so far are held, with a use for each.
abbrev pub invariant-loop-prefix : goal.invariant-loop-prefix
invariant-loop-prefix l = Keeps l.fn.table l.table (l.fn.one ∷ kept l.fn.held) (l.fn.one ∷ kept l.held)
