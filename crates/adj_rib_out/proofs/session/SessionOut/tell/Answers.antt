use Rattle.std.proofs.Common.{◌+◌, sym, ap, ◌∙◌, subst}
use Rattle.std.specs.List.{AllByRecursion}
use Rattle.attr_intern.specs.Table.{times, IsOf}
use Rattle.adj_rib_out.specs.Rows.{one_or_none}
use Rattle.adj_rib_out.specs.Out.{kept_of}
use Rattle.adj_rib_out.proofs.session.SessionOut.tell.Goals as goal

pub returns-clause-uses : goal.returns-clause-uses
returns-clause-uses c = λ number.
    ap (λ ones. times number ones + times number (one_or_none c.replace-old.result)) c.tidy.ensures.kept
    ∙ c.replace-old.ensures.uses number
    ∙ ap (λ out. times number (kept_of out) + times number (one_or_none c.args.wanted)) c.self.view_is

pub returns-clause-each : goal.returns-clause-each
returns-clause-each c = λ table all new.
    subst (AllByRecursion (IsOf table)) (sym c.tidy.ensures.kept)
    (c.replace-old.ensures.each table (subst (λ out. AllByRecursion (IsOf table) (kept_of out)) (sym c.self.view_is) all) new)

pub returns-clause-gone : goal.returns-clause-gone
returns-clause-gone c = λ table all. c.replace-old.ensures.gone table (subst (λ out. AllByRecursion (IsOf table) (kept_of out)) (sym c.self.view_is) all)
