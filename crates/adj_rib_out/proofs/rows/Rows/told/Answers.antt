use Rattle.std.proofs.Common.{ap, ◌∙◌}
use Rattle.net_base.specs.contracts.prefix.PrefixOrd.TheImpl.{cmp-value as derived}
use Rattle.net_base.proofs.Order.{derived_prefix_cmp}
use Rattle.adj_rib_out.specs.Rows.{told_of, told_in}
use Rattle.adj_rib_out.proofs.Puts.{row_is}
use Rattle.adj_rib_out.proofs.rows.Rows.told.Goals as goal

pub returns-in-Some : goal.returns-in-Some
returns-in-Some c =
    c.as_ref.ensures.value ∙ ap told_of (c.in-Some.ensures.value ∙ row_is derived.it derived_prefix_cmp c.self.inside.rows.entries c.args.prefix)
    ∙ ap (λ rows. told_in rows c.args.prefix) c.self.view_is
