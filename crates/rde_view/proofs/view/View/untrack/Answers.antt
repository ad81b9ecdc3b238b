use Rattle.std.proofs.Common.{ap, ◌∙◌}
use Rattle.std.specs.BTreeMap.{is_at}
use Rattle.std.specs.Map.{remove_entry}
use Rattle.net_base.specs.Order.{addr_cmp}
use Rattle.net_base.proofs.Order.{derived_addr_cmp}
use Rattle.rde_view.specs.View.{ViewState}
use Rattle.rde_view.proofs.Answers.{ByAddr}
use Rattle.rde_view.proofs.view.View.untrack.Goals as goal

pub returns-clause-gone : goal.returns-clause-gone
returns-clause-gone c =
    c.remove.ensures.entries
    ∙ ap (λ (by : ByAddr). remove_entry (is_at (by c.args.hop)) c.self.inside.answers.entries) derived_addr_cmp
    ∙ ap (λ (v : ViewState). remove_entry (is_at (addr_cmp c.args.hop)) v.answers) c.self.view_is
