use Rattle.std.proofs.Common.{Some, None, ap, ◌∙◌}
use Rattle.net_base.specs.contracts.addr.AddrOrd.TheImpl.{cmp-value as derived}
use Rattle.net_base.proofs.Order.{derived_addr_cmp}
use Rattle.rde_view.specs.View.{ViewState}
use Rattle.rde_view.proofs.Answers.{valid_from}
use Rattle.rde_view.proofs.view.View.is_valid.Goals as goal

pub returns-in-Some : goal.returns-in-Some
returns-in-Some c =
    c.is_yes.ensures ∙ valid_from derived.it derived_addr_cmp c.args.addr c.args.self.now.answers c.self.inside.answers.entries (ap (λ (v : ViewState). v.answers) c.self.view_is) c.len-ascending.ensures.ordered (Some c.in-Some.answer.now) c.in-Some.ensures.value

pub returns-in-None : goal.returns-in-None
returns-in-None c =
    valid_from derived.it derived_addr_cmp c.args.addr c.args.self.now.answers c.self.inside.answers.entries (ap (λ (v : ViewState). v.answers) c.self.view_is) c.len-ascending.ensures.ordered None c.in-None.ensures.value
