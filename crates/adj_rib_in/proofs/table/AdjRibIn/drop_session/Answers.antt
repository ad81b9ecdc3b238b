use Rattle.std.proofs.Common.{◌≡◌, sym, ap, ◌∙◌, subst}
use Rattle.std.specs.List.Sorted.{IsStrictlySortedBy}
use Rattle.std.specs.Map.{keys_of, lookup}
use Rattle.net_base.specs.declared.prefix.Prefix.{Prefix}
use Rattle.net_base.specs.Order.{prefix_cmp}
use Rattle.adj_rib_in.specs.Row.{without}
use Rattle.adj_rib_in.specs.Held.{Held, held_at, is_same, route_at}
use Rattle.adj_rib_in.proofs.Dropped.{routes_sorted}
use Rattle.adj_rib_in.proofs.Lists.{rows_without, dropped_all, lists_dropped}
use Rattle.adj_rib_in.proofs.table.AdjRibIn.drop_session.Goals as goal

pub invariant_of-self : goal.invariant_of-self
invariant_of-self c =
    lists_dropped c.self.inside.prefixes c.self.inside.rows c.drop_all-dropped.new.self c.args.session c.take-prefixes.result.keys c.self.invariant c.take-prefixes.ensures.prefixes c.drop_all-dropped.ensures.rows
    c.take-prefixes.new.self c.take-prefixes.ensures.others

pub returns-clause-rows : goal.returns-clause-rows
returns-clause-rows c =
    subst (λ (old : Held). (prefix : Prefix) → held_at c.drop_all-dropped.new.self prefix ≡ without c.args.session (held_at old prefix)) c.self.view_is
    (rows_without c.self.inside.prefixes c.self.inside.rows c.drop_all-dropped.new.self c.args.session c.take-prefixes.result.keys c.self.invariant c.take-prefixes.ensures.prefixes c.drop_all-dropped.ensures.rows)

pub returns-clause-dropped : goal.returns-clause-dropped
returns-clause-dropped c =
    subst (λ (old : Held). (prefix : Prefix) → lookup (is_same prefix) c.from_vec.result ≡ route_at old prefix c.args.session) c.self.view_is
    (λ prefix. ap (lookup (is_same prefix)) (c.from_vec.ensures ∙ c.drop_all-dropped.ensures.dropped)
    ∙ dropped_all c.self.inside.prefixes c.self.inside.rows c.drop_all-dropped.new.self c.args.session c.take-prefixes.result.keys c.self.invariant c.take-prefixes.ensures.prefixes c.drop_all-dropped.ensures.rows prefix)

pub returns-clause-by_prefix : goal.returns-clause-by_prefix
returns-clause-by_prefix c =
    subst (λ list. IsStrictlySortedBy prefix_cmp (keys_of list)) (sym (c.from_vec.ensures ∙ c.drop_all-dropped.ensures.dropped))
    (routes_sorted c.args.session c.self.inside.rows c.take-prefixes.result.keys (subst (IsStrictlySortedBy prefix_cmp) (sym c.take-prefixes.ensures.prefixes) c.count.ensures.order))
