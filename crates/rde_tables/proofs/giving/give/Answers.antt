use Rattle.std.proofs.Common.{[], ◌∷◌, Option, sym, subst}
use Rattle.attr_model.specs.Numbered.{Numbered}
use Rattle.adj_rib_in.specs.Uses.{refs_of_route}
use Rattle.rde_tables.specs.Uses.{Keeps}
use Rattle.rde_tables.proofs.Kept.{keeps_given}
use Rattle.rde_tables.proofs.giving.give.Goals as goal

pub returns-in-Some : goal.returns-in-Some
returns-in-Some c =
    subst (λ (o : Option Numbered). Keeps c.args.table.now c.give_back.new.self (refs_of_route o) []) (sym c.in-Some.is)
    (keeps_given c.args.table.now c.give_back.new.self (c.in-Some.one ∷ []) c.give_back.ensures)
