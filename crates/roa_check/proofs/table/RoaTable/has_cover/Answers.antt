use Rattle.std.proofs.Common.{◌∙◌, ◌≡◌, true, ap, sym, subst}
use Rattle.std.specs.List.{list_any}
use Rattle.net_base.specs.declared.addr.Family.{Family}
use Rattle.net_base.specs.declared.roa.Roa.{Roa}
use Rattle.net_base.specs.Order.{same_family}
use Rattle.net_base.specs.Prefix.{covers}
use Rattle.roa_check.proofs.Placing.{covers_family}
use Rattle.roa_check.proofs.table.RoaTable.has_cover.Goals as goal

pub returns-in-V4 : goal.returns-in-V4
returns-in-V4 c =
    c.has_cover.ensures
    ∙ (c.self.inside.all_v4 (λ (roa : Roa). covers roa.prefix c.args.prefix) (λ roa e. subst (λ (family : Family). same_family roa.prefix.family family ≡ true) c.in-V4.is (covers_family roa.prefix c.args.prefix e))
    ∙ ap (list_any (λ (roa : Roa). covers roa.prefix c.args.prefix)) c.self.view_is)

pub returns-in-V6 : goal.returns-in-V6
returns-in-V6 c =
    c.has_cover-in-V6.ensures
    ∙ (c.self.inside.all_v6 (λ (roa : Roa). covers roa.prefix c.args.prefix) (λ roa e. subst (λ (family : Family). same_family roa.prefix.family family ≡ true) c.in-V6.is (covers_family roa.prefix c.args.prefix e))
    ∙ ap (list_any (λ (roa : Roa). covers roa.prefix c.args.prefix)) c.self.view_is)
