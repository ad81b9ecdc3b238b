use Rattle.std.proofs.Common.{◌≡◌, ℕ, cond, Some, sym, ap, ◌∙◌, subst}
use Rattle.std.specs.BTreeMap.{is_at}
use Rattle.std.specs.Ordering.{nat_cmp}
use Rattle.adj_rib_out.specs.Out.{out_at, kept, kept_of}
use Rattle.adj_rib_out.proofs.Kept.{held-insert}
use Rattle.adj_rib_out.proofs.Puts.{none_is}
use Rattle.adj_rib_out.proofs.Sessions.{out_by, at_same}
use Rattle.adj_rib_out.proofs.table.AdjRibOut.begin.Goals as goal

pub returns-clause-same : goal.returns-clause-same
returns-clause-same c =
    let old = c.self.inside.sessions.entries in
    let new = c.insert.new.self.entries in
    subst (λ outs. (other : ℕ) → out_at new other ≡ out_at outs other) c.self.view_is
    (at_same old new c.args.session
    (subst (λ out. (q : ℕ) → out_by new q ≡ cond (is_at (nat_cmp c.args.session) q) (Some out) (out_by old q)) c.in_ok-out.ensures c.in_ok-insert.ensures.updates.0)
    (none_is (out_by old c.args.session) (sym c.contains_key.ensures ∙ c.if-contains_key.false)))

pub returns-clause-kept : goal.returns-clause-kept
returns-clause-kept c =
    let old = c.self.inside.sessions.entries in
    ap kept c.in_ok-insert.ensures.entries
    ∙ held-insert kept_of nat_cmp old c.args.session c.in_ok-out.out (none_is (out_by old c.args.session) (sym c.contains_key.ensures ∙ c.if-contains_key.false)) (ap kept_of c.in_ok-out.ensures)
    ∙ ap kept c.self.view_is
