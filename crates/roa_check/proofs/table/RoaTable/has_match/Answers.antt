use Rattle.std.proofs.Common.{◌∙◌, ◌≡◌, true, ap, sym, subst}
use Rattle.std.specs.List.{list_any}
use Rattle.net_base.specs.declared.addr.Family.{Family}
use Rattle.net_base.specs.declared.roa.Roa.{Roa}
use Rattle.net_base.specs.Order.{same_family}
use Rattle.net_base.specs.Roa.{matches}
use Rattle.roa_check.proofs.Placing.{match_family}
use Rattle.roa_check.proofs.table.RoaTable.has_match.Goals as goal

pub returns-in-V4 : goal.returns-in-V4
returns-in-V4 c =
    c.has_match.ensures
    ∙ (c.self.inside.all_v4 (matches c.args.prefix c.args.origin) (λ roa e. subst (λ (family : Family). same_family roa.prefix.family family ≡ true) c.in-V4.is (match_family c.args.prefix c.args.origin roa e))
    ∙ ap (list_any (matches c.args.prefix c.args.origin)) c.self.view_is)

pub returns-in-V6 : goal.returns-in-V6
returns-in-V6 c =
    c.has_match-in-V6.ensures
    ∙ (c.self.inside.all_v6 (matches c.args.prefix c.args.origin) (λ roa e. subst (λ (family : Family). same_family roa.prefix.family family ≡ true) c.in-V6.is (match_family c.args.prefix c.args.origin roa e))
    ∙ ap (list_any (matches c.args.prefix c.args.origin)) c.self.view_is)
