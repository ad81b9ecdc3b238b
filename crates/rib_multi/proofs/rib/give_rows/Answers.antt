use Rattle.std.proofs.Common.{◌≡◌, ◌∷◌, ◌++◌, List, Option, ap, sym, subst, ◌∙◌}
use Rattle.std.specs.List.{flat_map}
use Rattle.std.specs.Map.{values_of}
use Rattle.std.specs.Prelude.{IfSome}
use Rattle.net_base.specs.declared.prefix.Prefix.{Prefix}
use Rattle.attr_model.specs.Numbered.{Numbered}
use Rattle.attr_intern.specs.Table.{CameFrom}
use Rattle.decision.specs.declared.candidate.Candidate.{Candidate}
use Rattle.rib_multi.specs.Rows.{Kept}
use Rattle.rib_multi.specs.Uses.{refs_in, refs_of_row, Moves}
use Rattle.attr_intern.proofs.References.{came_front}
use Rattle.rib_multi.proofs.Moved.{came_behind, moves_front}
use Rattle.rib_multi.proofs.rib.give_rows.Goals as goal

first_is : (c : goal.After-give_all) → flat_map refs_of_row (values_of c.loop-row.rows.entries) ≡ refs_in c.into_candidates.result ++ flat_map refs_of_row (values_of c.pop_first.new.self.entries)
first_is c =
    let found : c.loop-row.rows.entries ≡ (c.in-Some.field-0-0, c.in-Some.row) ∷ c.pop_first.new.self.entries = subst (λ (o : Option (Prefix × Kept)). IfSome o (λ p. c.loop-row.rows.entries ≡ p ∷ c.pop_first.new.self.entries)) c.in-Some.is c.pop_first.ensures.removal in
    ap (λ (rows : List (Prefix × Kept)). flat_map refs_of_row (values_of rows)) found
    ∙ ap (λ (candidates : List Candidate). refs_in candidates ++ flat_map refs_of_row (values_of c.pop_first.new.self.entries)) (sym c.into_candidates.ensures)

pub give_all-requires : goal.give_all-requires
give_all-requires c =
    let found : c.loop-row.rows.entries ≡ (c.in-Some.field-0-0, c.in-Some.row) ∷ c.pop_first.new.self.entries = subst (λ (o : Option (Prefix × Kept)). IfSome o (λ p. c.loop-row.rows.entries ≡ p ∷ c.pop_first.new.self.entries)) c.in-Some.is c.pop_first.ensures.removal in
    let left = ap (λ (rows : List (Prefix × Kept)). flat_map refs_of_row (values_of rows)) found in
    subst (λ (candidates : List Candidate). CameFrom c.loop-row.table (refs_in candidates)) (sym c.into_candidates.ensures)
    (came_front c.loop-row.table (refs_in c.in-Some.row.candidates) (flat_map refs_of_row (values_of c.pop_first.new.self.entries)) (subst (CameFrom c.loop-row.table) left c.loop-row.invariant.came))

pub loop-row-preserved : goal.loop-row-preserved
loop-row-preserved c =
    let ones = refs_in c.into_candidates.result in
    let rest = flat_map refs_of_row (values_of c.pop_first.new.self.entries) in
    let all = flat_map refs_of_row (values_of c.args.rows.entries) in
    record {
      came = came_behind c.loop-row.table c.give_all.new.table ones rest c.give_all.ensures (subst (CameFrom c.loop-row.table) (first_is c) c.loop-row.invariant.came);
      moves = moves_front c.args.table.now c.loop-row.table c.give_all.new.table all ones rest (subst (Moves c.args.table.now c.loop-row.table all) (first_is c) c.loop-row.invariant.moves) c.give_all.ensures;
    }
