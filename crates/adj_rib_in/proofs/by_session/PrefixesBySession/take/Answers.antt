use Rattle.std.proofs.Common.{◌≡◌, ◌≢◌, ℕ, None, subst}
use Rattle.adj_rib_in.specs.Listed.{listed_of}
use Rattle.adj_rib_in.proofs.Listed.{at_others}
use Rattle.adj_rib_in.proofs.by_session.PrefixesBySession.take.Goals as goal

pub returns-clause-others : goal.returns-clause-others
returns-clause-others c =
    let old = c.self.inside.sessions.entries in
    let new = c.remove.new.self.entries in
    subst (λ listed. (s : ℕ) → s ≢ c.args.session → listed_of new s ≡ listed_of listed s) c.self.view_is
    (at_others old new c.args.session None c.remove.ensures.updates.0)
