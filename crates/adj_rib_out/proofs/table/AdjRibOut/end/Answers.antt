use Rattle.std.proofs.Common.{◌≡◌, ◌≢◌, ℕ, None, sym, ap, ◌∙◌, subst}
use Rattle.adj_rib_out.specs.Out.{out_at, kept}
use Rattle.adj_rib_out.proofs.Sessions.{at_session, at_others, came_one, trades_less, trades_none}
use Rattle.adj_rib_out.proofs.table.AdjRibOut.end.Goals as goal
use Rattle.attr_intern.specs.Table.{CameFrom}
use Rattle.adj_rib_out.specs.Uses.{Trades}

pub end-requires : goal.end-requires
end-requires c = came_one c.args.table.now c.self.inside.sessions.entries c.args.session c.in-Some.out c.in-Some.ensures.value (subst (λ outs. CameFrom c.args.table.now (kept outs)) (sym c.self.view_is) c.requires)

pub returns-clause-ended : goal.returns-clause-ended
returns-clause-ended c = at_session c.self.inside.sessions.entries c.remove.new.self.entries c.args.session None c.in-Some.ensures.updates.0

pub returns-clause-others : goal.returns-clause-others
returns-clause-others c =
    subst (λ outs. (other : ℕ) → other ≢ c.args.session → out_at c.remove.new.self.entries other ≡ out_at outs other) c.self.view_is
    (at_others c.self.inside.sessions.entries c.remove.new.self.entries c.args.session None c.in-Some.ensures.updates.0)

pub returns-clause-uses : goal.returns-clause-uses
returns-clause-uses c =
    let old = c.self.inside.sessions.entries in
    subst (λ outs. Trades c.args.table.now c.end.new.table (kept outs) (kept c.remove.new.self.entries)) c.self.view_is
    (trades_less c.args.table.now c.end.new.table old c.remove.new.self.entries c.args.session c.in-Some.out c.in-Some.ensures.value c.in-Some.ensures.entries
    (subst (λ outs. CameFrom c.args.table.now (kept outs)) (sym c.self.view_is) c.requires) c.end.ensures)

pub returns-in_default-clause-ended : goal.returns-in_default-clause-ended
returns-in_default-clause-ended c = at_session c.self.inside.sessions.entries c.remove.new.self.entries c.args.session None c.in_default.ensures.updates.0

pub returns-in_default-clause-others : goal.returns-in_default-clause-others
returns-in_default-clause-others c =
    subst (λ outs. (other : ℕ) → other ≢ c.args.session → out_at c.remove.new.self.entries other ≡ out_at outs other) c.self.view_is
    (at_others c.self.inside.sessions.entries c.remove.new.self.entries c.args.session None c.in_default.ensures.updates.0)

pub returns-in_default-clause-uses : goal.returns-in_default-clause-uses
returns-in_default-clause-uses c =
    trades_none c.args.table.now (kept c.args.self.now) (kept c.remove.new.self.entries) (ap kept (sym c.self.view_is) ∙ ap kept (sym c.in_default.ensures.unchanged)) c.requires
