use Rattle.std.proofs.Common.{◌≡◌, ◌≤◌, ◌<◌, ◌++◌, [], List, length, refl, sym, ap, ◌∙◌, subst, arith}
use Rattle.std.specs.Prelude.{slice_set}
use Rattle.attr_intern.specs.Table.{CameFrom, times}
use Rattle.rib_multi.specs.Rows.{RibState, Ribs, IsEmptyRib, rib_at}
use Rattle.rib_multi.specs.Uses.{refs_of, refs_of_rib, Moves}
use Rattle.rib_multi.proofs.Beside.{rib_is, came_at, refs_emptied, uses_emptied, came_emptied}
use Rattle.rib_multi.proofs.ribs.RibMulti.empty.Goals as goal

pub give_back-requires : goal.give_back-requires
give_back-requires c =
    let ribs = c.self.inside.ribs.items in
    let at = c.from.result in
    let table = c.args.table.now in
    let within : c.from.result < length c.self.inside.ribs.items = omega (arith, c.requires.within, c.from.ensures, c.self.invariant) in
    let gone : c.replace-rib.result ≡ rib_at ribs at = c.replace-rib.ensures.value ∙ rib_is ribs ribs at at c.index_mut.result.now refl refl within c.index_mut.ensures.value in
    let came = subst (λ (now : Ribs). CameFrom table (refs_of now)) (sym c.self.view_is) c.requires.came in
    subst (λ (rib : RibState). CameFrom table (refs_of_rib rib)) (sym gone) (came_at table ribs at came)

pub returns-clause-uses : goal.returns-clause-uses
returns-clause-uses c =
    let ribs = c.self.inside.ribs.items in
    let at = c.from.result in
    let table = c.args.table.now in
    let within : c.from.result < length c.self.inside.ribs.items = omega (arith, c.requires.within, c.from.ensures, c.self.invariant) in
    let gone : c.replace-rib.result ≡ rib_at ribs at = c.replace-rib.ensures.value ∙ rib_is ribs ribs at at c.index_mut.result.now refl refl within c.index_mut.ensures.value in
    let came = subst (λ (now : Ribs). CameFrom table (refs_of now)) (sym c.self.view_is) c.requires.came in
    let after = c.give_back.new.table in
    let new = c.replace-rib.new.dest in
    let empty = subst IsEmptyRib (sym c.replace-rib.ensures.after) c.new.ensures in
    let moves = subst (λ (rib : RibState). Moves table after (refs_of_rib rib) []) gone c.give_back.ensures in
    subst (λ (now : Ribs). Moves table after (refs_of now) (refs_of (slice_set ribs at new))) c.self.view_is (uses_emptied ribs at new within empty table after moves)

pub returns-clause-fewer : goal.returns-clause-fewer
returns-clause-fewer c number =
    let ribs = c.self.inside.ribs.items in
    let at = c.from.result in
    let table = c.args.table.now in
    let within : c.from.result < length c.self.inside.ribs.items = omega (arith, c.requires.within, c.from.ensures, c.self.invariant) in
    let gone : c.replace-rib.result ≡ rib_at ribs at = c.replace-rib.ensures.value ∙ rib_is ribs ribs at at c.index_mut.result.now refl refl within c.index_mut.ensures.value in
    let came = subst (λ (now : Ribs). CameFrom table (refs_of now)) (sym c.self.view_is) c.requires.came in
    let after = c.give_back.new.table in
    let new = c.replace-rib.new.dest in
    let empty = subst IsEmptyRib (sym c.replace-rib.ensures.after) c.new.ensures in
    let moves = subst (λ (rib : RibState). Moves table after (refs_of_rib rib) []) gone c.give_back.ensures in
    subst (λ (now : Ribs). times number (refs_of (slice_set ribs at new)) ≤ times number (refs_of now)) c.self.view_is (omega (arith, refs_emptied ribs at new within empty number))

pub returns-clause-came : goal.returns-clause-came
returns-clause-came c =
    let ribs = c.self.inside.ribs.items in
    let at = c.from.result in
    let table = c.args.table.now in
    let within : c.from.result < length c.self.inside.ribs.items = omega (arith, c.requires.within, c.from.ensures, c.self.invariant) in
    let gone : c.replace-rib.result ≡ rib_at ribs at = c.replace-rib.ensures.value ∙ rib_is ribs ribs at at c.index_mut.result.now refl refl within c.index_mut.ensures.value in
    let came = subst (λ (now : Ribs). CameFrom table (refs_of now)) (sym c.self.view_is) c.requires.came in
    let after = c.give_back.new.table in
    let new = c.replace-rib.new.dest in
    let empty = subst IsEmptyRib (sym c.replace-rib.ensures.after) c.new.ensures in
    let moves = subst (λ (rib : RibState). Moves table after (refs_of_rib rib) []) gone c.give_back.ensures in
    came_emptied ribs at new within empty table after came moves
