use Rattle.std.proofs.Common.{◌≡◌, ℕ, true, Some, ap, ◌∙◌, subst}
use Rattle.std.specs.Cmp.{eq_by_cmp_equiv}
use Rattle.net_base.specs.declared.prefix.Prefix.{Prefix}
use Rattle.net_base.specs.PrefixSet.{is_in}
use Rattle.net_base.proofs.Order.{derived_prefix_cmp, prefix_cmp-total}
use Rattle.net_base.proofs.PrefixSets.{added}
use Rattle.adj_rib_in.specs.Listed.{is_listed}
use Rattle.adj_rib_in.proofs.Listed.{set_by, some_set, at_session, stays, or_stays, or_added}
use Rattle.adj_rib_in.proofs.by_session.PrefixesBySession.add_to.Goals as goal

pub returns-in_err-insert-clause-stays : goal.returns-in_err-insert-clause-stays
returns-in_err-insert-clause-stays c =
    let old = c.self.inside.sessions.entries in
    let now = c.insert.new.self in
    let new = (c.get_mut.follows.lender now).entries in
    let found = c.in-Some.ensures.value in
    let puts = ((c.get_mut.follows.holds now).3 (some_set c.in-Some.prefixes.now (set_by old c.args.session) found)).0 in
    subst (λ listed. (s : ℕ) (p : Prefix) → is_listed listed s p ≡ true → is_listed new s p ≡ true) c.self.view_is
    (stays old new c.args.session c.in-Some.prefixes.now now found puts (λ p is. ap (λ keys. is_in keys p) c.in_err-insert.ensures.err ∙ is))

pub returns-clause-added : goal.returns-clause-added
returns-clause-added c =
    let old = c.self.inside.sessions.entries in
    let was = c.in-Some.prefixes.now in
    let now = c.insert.new.self in
    let new = (c.get_mut.follows.lender now).entries in
    let puts = ((c.get_mut.follows.holds now).3 (some_set was (set_by old c.args.session) c.in-Some.ensures.value)).0 in
    let one = added _ derived_prefix_cmp was.keys now.keys c.args.prefix c.in_ok-insert.ensures.updates.0 c.args.prefix in
    ap (λ keys. is_in keys c.args.prefix) (at_session old new c.args.session (Some now) puts) ∙ or_added _ _ _ one ((eq_by_cmp_equiv prefix_cmp-total).refl c.args.prefix)

pub returns-clause-stays : goal.returns-clause-stays
returns-clause-stays c =
    let old = c.self.inside.sessions.entries in
    let was = c.in-Some.prefixes.now in
    let now = c.insert.new.self in
    let new = (c.get_mut.follows.lender now).entries in
    let found = c.in-Some.ensures.value in
    let puts = ((c.get_mut.follows.holds now).3 (some_set was (set_by old c.args.session) found)).0 in
    let all = added _ derived_prefix_cmp was.keys now.keys c.args.prefix c.in_ok-insert.ensures.updates.0 in
    subst (λ listed. (s : ℕ) (p : Prefix) → is_listed listed s p ≡ true → is_listed new s p ≡ true) c.self.view_is
    (stays old new c.args.session was now found puts (λ p is. or_stays _ _ _ (all p) is))
