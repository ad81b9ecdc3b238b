use Rattle.std.proofs.Common.{◌++◌, Some, sym, ap, ◌∙◌, subst}
use Rattle.std.specs.List.{AllByRecursion}
use Rattle.decision.specs.Best.{best_of}
use Rattle.attr_intern.specs.Table.{CameFrom, IsOf}
use Rattle.rib_multi.specs.Rows.{Kept, RibState, row_in, candidates_of}
use Rattle.rib_multi.specs.Uses.{refs_in, refs_of_rib}
use Rattle.rib_multi.proofs.Chosen.{best_is_of}
use Rattle.attr_intern.proofs.References.{came_front, came_back}
use Rattle.rib_multi.proofs.Moved.{came_still}
use Rattle.rib_multi.proofs.Replaced.{Replaces}
use Rattle.rib_multi.proofs.rib.Rib.refresh.Goals as goal

pub change_of-requires-clause-old : goal.change_of-requires-clause-old
change_of-requires-clause-old c =
    let was = row_in c.args.self.now c.args.prefix in
    best_is_of c.args.table.now was c.best_of.result c.best_of.ensures (came_front c.args.table.now (refs_in (candidates_of was)) (refs_in c.args.candidates) c.requires.came).each

pub change_of-requires-clause-new : goal.change_of-requires-clause-new
change_of-requires-clause-new c =
    let was = row_in c.args.self.now c.args.prefix in
    let row : Kept = record { candidates = c.args.candidates; always = c.args.always } in
    best_is_of c.args.table.now (Some row) c.best.result (c.best.ensures ∙ ap (λ (row : Kept). best_of row.always row.candidates) c.new-row.ensures) (came_back c.args.table.now (refs_in (candidates_of was)) (refs_in c.args.candidates) c.requires.came).each

pub give_row-requires : goal.give_row-requires
give_row-requires c =
    let was = row_in c.args.self.now c.args.prefix in
    subst (λ row. CameFrom c.change_of.new.table (refs_in (candidates_of row))) (sym c.in-Ok.ensures.old)
    (came_still c.args.table.now c.change_of.new.table _ (refs_in (candidates_of was)) c.in_ok-change.ensures.hands (came_front c.args.table.now (refs_in (candidates_of was)) (refs_in c.args.candidates) c.requires.came))

pub returns-in-Ok-clause-refs : goal.returns-in-Ok-clause-refs
returns-in-Ok-clause-refs c number =
    let was = row_in c.args.self.now c.args.prefix in
    subst (λ rows. Replaces number c.args.self.now (record { rows = rows; marks = c.take_mark.new.self.marks }) was c.args.candidates) (sym c.take_mark.ensures.rows)
    (subst (λ (row : Kept). Replaces number c.args.self.now (record { rows = c.put.new.self.rows; marks = c.take_mark.new.self.marks }) was row.candidates) c.new-row.ensures (c.in-Ok.ensures.refs number))

pub returns-in-Ok-clause-each : goal.returns-in-Ok-clause-each
returns-in-Ok-clause-each c other before now =
    subst (λ rows. AllByRecursion (IsOf other) (refs_of_rib (record { rows = rows; marks = c.take_mark.new.self.marks }))) (sym c.take_mark.ensures.rows)
    (c.in-Ok.ensures.each other before (subst (λ (row : Kept). AllByRecursion (IsOf other) (refs_in row.candidates)) (sym c.new-row.ensures) now))
