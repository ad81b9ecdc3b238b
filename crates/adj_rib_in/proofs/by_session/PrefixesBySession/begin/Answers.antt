use Rattle.std.proofs.Common.{◌≡◌, ℕ, Some, sym, ◌∙◌, subst}
use Rattle.adj_rib_in.specs.Listed.{listed_of}
use Rattle.adj_rib_in.proofs.Listed.{set_by, at_same, none_is, none_by}
use Rattle.adj_rib_in.proofs.by_session.PrefixesBySession.begin.Goals as goal

pub returns : goal.returns
returns c =
    let old = c.self.inside.sessions.entries in
    let new = c.insert.new.self.entries in
    let none = none_by (set_by old c.args.session) (sym c.contains_key.ensures ∙ c.if-contains_key.false) in
    subst (λ listed. (s : ℕ) → listed_of new s ≡ listed_of listed s) c.self.view_is
    (at_same old new c.args.session (Some c.new.result) c.in_ok-insert.ensures.updates.0 (c.new.ensures.empty ∙ sym (none_is old c.args.session (sym none))))
