use Rattle.std.proofs.Common.{sym, ap, ◌∙◌}
use Rattle.adj_rib_out.specs.Out.{out_at}
use Rattle.adj_rib_out.proofs.Sessions.{found_at, none_at}
use Rattle.adj_rib_out.proofs.table.AdjRibOut.of.Goals as goal

pub returns-in-Some : goal.returns-in-Some
returns-in-Some c = ap (λ outs. out_at outs c.args.session) (sym c.self.view_is) ∙ found_at c.self.inside.sessions.entries c.args.session c.in-Some.out.now c.in-Some.ensures.value

pub returns-in-None : goal.returns-in-None
returns-in-None c = ap (λ outs. out_at outs c.args.session) (sym c.self.view_is) ∙ none_at c.self.inside.sessions.entries c.args.session c.in-None.ensures.value
