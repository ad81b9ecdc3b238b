use Rattle.std.proofs.Common.{◌∷◌}
use Rattle.adj_rib_in.specs.Uses.{kept}
use Rattle.rde_tables.proofs.Kept.{keeps_came}
use Rattle.rde_tables.proofs.holding.hold_all.Goals as goal

pub hold-requires : goal.hold-requires
hold-requires c =
    keeps_came c.args.table.now c.loop-prefix.table (c.args.one.now ∷ kept c.args.held.now) (c.args.one.now ∷ kept c.loop-prefix.held) c.loop-prefix.invariant c.requires
