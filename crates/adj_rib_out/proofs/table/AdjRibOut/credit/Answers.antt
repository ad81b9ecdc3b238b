use Rattle.std.proofs.Common.{◌≡◌, ◌≢◌, ℕ, ◌≤◌, Some, length, sym, ap, ◌∙◌, subst}
use Rattle.std.specs.Prelude.{drop}
use Rattle.std.specs.BTreeMap.{is_at}
use Rattle.std.specs.Ordering.{nat_cmp}
use Rattle.adj_rib_out.specs.Out.{Out, out_at, kept, kept_of}
use Rattle.adj_rib_out.proofs.Kept.{held-set}
use Rattle.adj_rib_out.proofs.Sessions.{out_by, at_session, at_others, found_at, some_out}
use Rattle.adj_rib_out.proofs.table.AdjRibOut.credit.Goals as goal

pub credit-requires : goal.credit-requires
credit-requires c =
    subst (λ out. c.args.n ≤ length out.flight)
    (ap (λ outs. out_at outs c.args.session) (sym c.self.view_is) ∙ found_at c.self.inside.sessions.entries c.args.session c.in-Some.out.now c.in-Some.ensures.value) c.requires

pub returns-clause-credited : goal.returns-clause-credited
returns-clause-credited c =
    let old = c.self.inside.sessions.entries in
    let w = c.credit.new.self in
    let new = (c.get_mut.follows.lender w).entries in
    let found = c.in-Some.ensures.value in
    let holds = c.get_mut.follows.holds w in
    let put = (holds.3 (some_out c.in-Some.out.now (out_by old c.args.session) found)).0 in
    let was : out_at c.args.self.now c.args.session ≡ c.in-Some.out.now = ap (λ outs. out_at outs c.args.session) (sym c.self.view_is) ∙ found_at old c.args.session c.in-Some.out.now found in
    let now : out_at new c.args.session ≡ w = at_session old new c.args.session (Some w) put in
    now ∙ c.credit.ensures ∙ ap (λ (out : Out). record out { flight = drop c.args.n out.flight }) (sym was)

pub returns-clause-others : goal.returns-clause-others
returns-clause-others c =
    let old = c.self.inside.sessions.entries in
    let w = c.credit.new.self in
    let new = (c.get_mut.follows.lender w).entries in
    let found = c.in-Some.ensures.value in
    let holds = c.get_mut.follows.holds w in
    let put = (holds.3 (some_out c.in-Some.out.now (out_by old c.args.session) found)).0 in
    let was : out_at c.args.self.now c.args.session ≡ c.in-Some.out.now = ap (λ outs. out_at outs c.args.session) (sym c.self.view_is) ∙ found_at old c.args.session c.in-Some.out.now found in
    let now : out_at new c.args.session ≡ w = at_session old new c.args.session (Some w) put in
    subst (λ outs. (other : ℕ) → other ≢ c.args.session → out_at new other ≡ out_at outs other) c.self.view_is (at_others old new c.args.session (Some w) put)

pub returns-clause-kept : goal.returns-clause-kept
returns-clause-kept c =
    let old = c.self.inside.sessions.entries in
    let w = c.credit.new.self in
    let new = (c.get_mut.follows.lender w).entries in
    let found = c.in-Some.ensures.value in
    let holds = c.get_mut.follows.holds w in
    let put = (holds.3 (some_out c.in-Some.out.now (out_by old c.args.session) found)).0 in
    let was : out_at c.args.self.now c.args.session ≡ c.in-Some.out.now = ap (λ outs. out_at outs c.args.session) (sym c.self.view_is) ∙ found_at old c.args.session c.in-Some.out.now found in
    let now : out_at new c.args.session ≡ w = at_session old new c.args.session (Some w) put in
    ap kept holds.0 ∙ held-set kept_of (is_at (nat_cmp c.args.session)) old c.in-Some.out.now w (sym found) (ap kept_of c.credit.ensures) ∙ ap kept c.self.view_is
