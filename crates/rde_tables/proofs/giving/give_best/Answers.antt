use Rattle.std.proofs.Common.{[], ◌∷◌, Option, sym, subst}
use Rattle.decision.specs.declared.candidate.Candidate.{Candidate}
use Rattle.rib_multi.specs.Uses.{refs_of_one}
use Rattle.rde_tables.specs.Uses.{Keeps}
use Rattle.rde_tables.proofs.Kept.{keeps_given}
use Rattle.rde_tables.proofs.giving.give_best.Goals as goal

pub returns-in-Some : goal.returns-in-Some
returns-in-Some c =
    subst (λ (o : Option Candidate). Keeps c.args.table.now c.give_back.new.self (refs_of_one o) []) (sym c.in-Some.is)
    (keeps_given c.args.table.now c.give_back.new.self (c.in-Some.best.attrs ∷ []) c.give_back.ensures)
