use Rattle.std.proofs.Common.{◌≡◌, ℕ, not, ◌&&◌, ◌==◌, subst}
use Rattle.net_base.specs.declared.prefix.Prefix.{Prefix}
use Rattle.net_base.proofs.Order.{derived_prefix_cmp}
use Rattle.net_base.proofs.PrefixSets.{removed}
use Rattle.adj_rib_in.specs.Held.{is_same}
use Rattle.adj_rib_in.specs.Listed.{Listed, is_listed}
use Rattle.adj_rib_in.proofs.Listed.{set_by, some_set, less}
use Rattle.adj_rib_in.proofs.by_session.PrefixesBySession.remove.Goals as goal

pub returns : goal.returns
returns c =
    let old = c.self.inside.sessions.entries in
    let was = c.in-Some.prefixes.now in
    let now = c.remove.new.self in
    let new = (c.get_mut.follows.lender now).entries in
    let found = c.in-Some.ensures.value in
    let puts = ((c.get_mut.follows.holds now).3 (some_set was (set_by old c.args.session) found)).0 in
    subst (λ (listed : Listed). (s : ℕ) (p : Prefix) → is_listed new s p ≡ (not (c.args.session == s && is_same c.args.prefix p) && is_listed listed s p)) c.self.view_is
    (less old new c.args.session was now found puts c.args.prefix (removed _ derived_prefix_cmp was.keys now.keys c.args.prefix c.remove.ensures.updates.0))
