use Rattle.std.proofs.Common.{ap, sym, ◌∙◌}
use Rattle.net_base.specs.contracts.prefix.PrefixOrd.TheImpl.{cmp-value as derived}
use Rattle.net_base.proofs.Order.{derived_prefix_cmp}
use Rattle.rib_multi.specs.Rows.{RibState, best_of_row, row_in}
use Rattle.rib_multi.proofs.Replaced.{row_is}
use Rattle.rib_multi.proofs.rib.Rib.best_of.Goals as goal

pub returns : goal.returns
returns c =
    c.best.ensures ∙ ap best_of_row (c.in_ok-get.ensures.value ∙ row_is derived.it derived_prefix_cmp c.self.inside.rows.entries c.args.prefix)
    ∙ ap (λ (rib : RibState). best_of_row (row_in rib c.args.prefix)) c.self.view_is
