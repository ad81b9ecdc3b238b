use Rattle.std.proofs.Common.{◌∙◌, ◌≡◌, true, ap, sym, subst}
use Rattle.std.specs.List.{list_any}
use Rattle.net_base.specs.declared.addr.Family.{Family}
use Rattle.conf_tree.specs.declared.sets.PrefixRange.{PrefixRange}
use Rattle.net_base.specs.Order.{same_family}
use Rattle.conf_tree.specs.Membership.{holds}
use Rattle.conf_sets.proofs.Ranges.{range_family}
use Rattle.conf_sets.proofs.range_table.RangeTable.holds.Goals as goal

pub returns-in-V4 : goal.returns-in-V4
returns-in-V4 c =
    c.holds.ensures
    ∙ (c.self.inside.all_v4 (holds c.args.prefix) (λ range e. subst (λ (family : Family). same_family range.prefix.family family ≡ true) c.in-V4.is (range_family c.args.prefix range e))
    ∙ ap (list_any (holds c.args.prefix)) c.self.view_is)

pub returns-in-V6 : goal.returns-in-V6
returns-in-V6 c =
    c.holds-in-V6.ensures
    ∙ (c.self.inside.all_v6 (holds c.args.prefix) (λ range e. subst (λ (family : Family). same_family range.prefix.family family ≡ true) c.in-V6.is (range_family c.args.prefix range e))
    ∙ ap (list_any (holds c.args.prefix)) c.self.view_is)
