use Rattle.std.proofs.Common.{sym, ap, ◌∙◌}
use Rattle.adj_rib_in.specs.Listed.{listed_of}
use Rattle.adj_rib_in.proofs.Listed.{none_is, sorted_none}
use Rattle.adj_rib_in.proofs.by_session.PrefixesBySession.count.Goals as goal

pub returns-in-None-clause-order : goal.returns-in-None-clause-order
returns-in-None-clause-order c =
    sorted_none _ (ap (λ listed. listed_of listed c.args.session) (sym c.self.view_is) ∙ none_is c.self.inside.sessions.entries c.args.session c.in-None.ensures.value)
