use Rattle.std.proofs.Common.{◌≡◌, Some, not, ◌||◌, sym, ap, ◌∙◌}
use Rattle.net_base.specs.contracts.prefix.PrefixOrd.TheImpl.{cmp-value as derived}
use Rattle.net_base.proofs.Order.{derived_prefix_cmp}
use Rattle.adj_rib_out.specs.Rows.{told_of, again_of, row_at}
use Rattle.adj_rib_out.specs.Same.{same_number}
use Rattle.adj_rib_out.proofs.Puts.{row_is}
use Rattle.adj_rib_out.proofs.rows.Rows.has_news.Goals as goal

pub returns-else-row : goal.returns-else-row
returns-else-row c =
    let here : Some c.in-Some.row.now ≡ row_at c.args.self.now c.args.prefix =
    c.in-Some.ensures.value ∙ row_is derived.it derived_prefix_cmp c.self.inside.rows.entries c.args.prefix ∙ ap (λ rows. row_at rows c.args.prefix) c.self.view_is in
    ap not c.is_same_wanted.ensures
    ∙ ap (λ b. b || not (same_number c.args.wanted.now c.in-Some.row.now.told)) (sym c.if-row.false)
    ∙ ap (λ row. again_of row || not (same_number c.args.wanted.now (told_of row))) here
