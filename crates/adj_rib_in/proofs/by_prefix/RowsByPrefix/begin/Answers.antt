use Rattle.std.proofs.Common.{ap, ◌∙◌, subst}
use Rattle.net_base.specs.contracts.prefix.PrefixOrd.TheImpl.{cmp-value as derived}
use Rattle.net_base.proofs.Order.{derived_prefix_cmp}
use Rattle.adj_rib_in.specs.Row.{put}
use Rattle.adj_rib_in.specs.Held.{SetsRow}
use Rattle.adj_rib_in.proofs.Held.{sets_row}
use Rattle.adj_rib_in.proofs.Uses.{begun_swaps}
use Rattle.adj_rib_in.proofs.by_prefix.RowsByPrefix.begin.Goals as goal

pub returns-in-Ok-clause-row : goal.returns-in-Ok-clause-row
returns-in-Ok-clause-row c =
    let new = c.insert.new.self.entries in
    let first = subst (λ old. SetsRow old new c.args.prefix c.put.new.self) c.self.view_is (sets_row derived.it derived_prefix_cmp c.self.inside.rows.entries new c.args.prefix c.put.new.self c.in-Ok.ensures.updates.0) in
    subst (λ row. SetsRow c.args.self.now new c.args.prefix row) (c.in_ok-put.ensures.row ∙ ap (put c.args.entry) c.new-row.ensures) first

pub returns-in-Ok-clause-swaps : goal.returns-in-Ok-clause-swaps
returns-in-Ok-clause-swaps c =
    begun_swaps derived.it derived_prefix_cmp c.self.inside.rows.entries c.args.self.now c.insert.new.self.entries c.args.prefix c.args.entry c.put.new.self c.self.view_is c.requires c.in-Ok.ensures.entries
    (c.in_ok-put.ensures.row ∙ ap (put c.args.entry) c.new-row.ensures)
