use Rattle.std.proofs.Common.{[], ◌∷◌, Option, Some, sym, ap, ◌∙◌, subst}
use Rattle.adj_rib_out.specs.declared.look.Built.{Built}
use Rattle.adj_rib_out.specs.Looks.{used_by}
use Rattle.rde_tables.specs.Uses.{Keeps}
use Rattle.rde_tables.proofs.Kept.{keeps_given}
use Rattle.rde_tables.proofs.telling.told_of.Goals as goal

pub returns-in_err-copy-in-Some-Announce : goal.returns-in_err-copy-in-Some-Announce
returns-in_err-copy-in-Some-Announce c =
    subst (λ (built : Option Built). Keeps c.args.table.now c.give_back.new.self (used_by built) []) (sym (c.in-Some-Announce.is ∙ ap Some c.in-Some-Announce.field-0-is))
    (keeps_given c.args.table.now c.give_back.new.self (c.in-Some-Announce.one ∷ []) c.give_back.ensures)

pub returns-in_ok-copy-in-Some-Announce : goal.returns-in_ok-copy-in-Some-Announce
returns-in_ok-copy-in-Some-Announce c =
    subst (λ (built : Option Built). Keeps c.args.table.now c.give_back.new.self (used_by built) []) (sym (c.in-Some-Announce.is ∙ ap Some c.in-Some-Announce.field-0-is))
    (keeps_given c.args.table.now c.give_back.new.self (c.in-Some-Announce.one ∷ []) c.give_back.ensures)
