use Rattle.std.proofs.Common.{◌≡◌, ap, subst, ◌∙◌}
use Rattle.std.proofs.lemmas.Bool.Decides.{Decides-at}
use Rattle.std.specs.List.{list_any}
use Rattle.std.specs.Ordering.{eq_by_cmp}
use Rattle.std.specs.declared.cmp.Ordering.{Ordering}
use Rattle.net_base.specs.declared.prefix.Prefix.{Prefix}
use Rattle.net_base.specs.Order.{prefix_cmp}
use Rattle.net_base.proofs.Order.{derived_prefix_cmp, prefixes-Contains}
use Rattle.net_base.proofs.prefix_set.PrefixSet.has.Goals as goal

pub returns-clause-value : goal.returns-clause-value
returns-clause-value c =
    let Found : (Prefix → Prefix → Ordering) → Type 0 = λ order. c.contains.result ≡ list_any (eq_by_cmp order c.args.prefix) c.self.inside.prefixes.keys in
    let found : Found prefix_cmp = subst Found derived_prefix_cmp c.contains.ensures in
    found ∙ ap (list_any (eq_by_cmp prefix_cmp c.args.prefix)) c.self.view_is

pub returns-clause-member : goal.returns-clause-member
returns-clause-member c = Decides-at c.contains.result _ (returns-clause-value c) (prefixes-Contains c.args.prefix c.args.self.now)
