use Rattle.std.proofs.Common.{◌≡◌, refl, ◌<◌, ◌++◌, ◌&&◌, not, true, List, length, sym, ap, ◌∙◌, subst, arith}
use Rattle.std.specs.Prelude.{slice_set, IfOk, OnOk}
use Rattle.std.specs.Ordering.{eq_by_cmp}
use Rattle.net_base.specs.declared.prefix.Prefix.{Prefix}
use Rattle.net_base.specs.Order.{prefix_cmp}
use Rattle.net_base.specs.PrefixSet.{IsLeastOf}
use Rattle.sweep_jobs.specs.Marks.{is_marked}
use Rattle.decision.specs.Best.{best_of}
use Rattle.attr_intern.specs.Table.{CameFrom}
use Rattle.rib_multi.specs.declared.change.Change.{Change}
use Rattle.rib_multi.specs.Rows.{RibState, Ribs, rib_at, row_in, row_for, candidates_of, best_of_row, best_at, kept_at, SetsRow}
use Rattle.rib_multi.specs.Uses.{refs_in, refs_of, refs_of_change, Moves}
use Rattle.rib_multi.proofs.Beside.{within_from, rib_is, rib_set, came_kept, uses_refreshed, came_refreshed, Replaces, Spreads}
use Rattle.rib_multi.proofs.ribs.RibMulti.refresh.Goals as goal

pub refresh-requires-clause-least : goal.refresh-requires-clause-least
refresh-requires-clause-least c =
    let ribs = c.self.inside.ribs.items in
    let marked = within_from c.args.known.now c.args.self.now c.args.rib c.args.prefix c.requires.least.passes in
    let within : c.from.result < length c.self.inside.ribs.items = omega (arith, marked, c.from.ensures, ap (λ (ribs : Ribs). length ribs) c.self.view_is) in
    let entry = rib_is ribs c.args.self.now c.from.result c.args.rib c.index_mut.result.now c.self.view_is c.from.ensures within c.index_mut.ensures.value in
    subst (λ (rib : RibState). IsLeastOf (is_marked c.args.known.now rib.marks) c.args.prefix) (sym entry) c.requires.least

pub refresh-requires-clause-came : goal.refresh-requires-clause-came
refresh-requires-clause-came c =
    let ribs = c.self.inside.ribs.items in
    let marked = within_from c.args.known.now c.args.self.now c.args.rib c.args.prefix c.requires.least.passes in
    let within : c.from.result < length c.self.inside.ribs.items = omega (arith, marked, c.from.ensures, ap (λ (ribs : Ribs). length ribs) c.self.view_is) in
    let entry = rib_is ribs c.args.self.now c.from.result c.args.rib c.index_mut.result.now c.self.view_is c.from.ensures within c.index_mut.ensures.value in
    subst (λ (rib : RibState). CameFrom c.args.table.now (refs_in (candidates_of (row_in rib c.args.prefix)) ++ refs_in c.args.candidates)) (sym entry) (came_kept c.args.table.now c.args.self.now c.args.rib c.args.prefix c.args.candidates c.requires.came)

pub returns-clause-row : goal.returns-clause-row
returns-clause-row c =
    let ribs = c.self.inside.ribs.items in
    let marked = within_from c.args.known.now c.args.self.now c.args.rib c.args.prefix c.requires.least.passes in
    let within : c.from.result < length c.self.inside.ribs.items = omega (arith, marked, c.from.ensures, ap (λ (ribs : Ribs). length ribs) c.self.view_is) in
    let entry = rib_is ribs c.args.self.now c.from.result c.args.rib c.index_mut.result.now c.self.view_is c.from.ensures within c.index_mut.ensures.value in
    let new = c.refresh.new.self in
    let placed = rib_set ribs c.from.result c.args.rib new c.from.ensures within in
    let row = row_for c.args.med_always c.args.candidates in
    subst (λ (old : RibState). OnOk c.refresh.result (SetsRow old (rib_at (slice_set ribs c.from.result new) c.args.rib) c.args.prefix row)) entry
    (subst (λ (rib : RibState). OnOk c.refresh.result (SetsRow c.index_mut.result.now rib c.args.prefix row)) (sym placed) c.refresh.ensures.row)

pub returns-clause-taken : goal.returns-clause-taken
returns-clause-taken c =
    let ribs = c.self.inside.ribs.items in
    let marked = within_from c.args.known.now c.args.self.now c.args.rib c.args.prefix c.requires.least.passes in
    let within : c.from.result < length c.self.inside.ribs.items = omega (arith, marked, c.from.ensures, ap (λ (ribs : Ribs). length ribs) c.self.view_is) in
    let entry = rib_is ribs c.args.self.now c.from.result c.args.rib c.index_mut.result.now c.self.view_is c.from.ensures within c.index_mut.ensures.value in
    let new = c.refresh.new.self in
    let placed = rib_set ribs c.from.result c.args.rib new c.from.ensures within in
    let known = c.args.known.now in
    let Without : RibState → RibState → Type 0 = λ (old rib : RibState). OnOk c.refresh.result ((q : Prefix) → is_marked known rib.marks q ≡ (not (eq_by_cmp prefix_cmp q c.args.prefix) && is_marked known old.marks q)) in
    subst (λ (old : RibState). Without old (rib_at (slice_set ribs c.from.result new) c.args.rib)) entry
    (subst (Without c.index_mut.result.now) (sym placed) c.refresh.ensures.taken)

pub returns-clause-none_comes : goal.returns-clause-none_comes
returns-clause-none_comes c =
    let ribs = c.self.inside.ribs.items in
    let marked = within_from c.args.known.now c.args.self.now c.args.rib c.args.prefix c.requires.least.passes in
    let within : c.from.result < length c.self.inside.ribs.items = omega (arith, marked, c.from.ensures, ap (λ (ribs : Ribs). length ribs) c.self.view_is) in
    let entry = rib_is ribs c.args.self.now c.from.result c.args.rib c.index_mut.result.now c.self.view_is c.from.ensures within c.index_mut.ensures.value in
    let new = c.refresh.new.self in
    let placed = rib_set ribs c.from.result c.args.rib new c.from.ensures within in
    let Fewer : RibState → RibState → Type 0 = λ (old rib : RibState). OnOk c.refresh.result ((others : List Prefix) (q : Prefix) → is_marked others rib.marks q ≡ true → is_marked others old.marks q ≡ true) in
    subst (λ (old : RibState). Fewer old (rib_at (slice_set ribs c.from.result new) c.args.rib)) entry
    (subst (Fewer c.index_mut.result.now) (sym placed) c.refresh.ensures.none_comes)

pub returns-clause-old : goal.returns-clause-old
returns-clause-old c =
    let ribs = c.self.inside.ribs.items in
    let marked = within_from c.args.known.now c.args.self.now c.args.rib c.args.prefix c.requires.least.passes in
    let within : c.from.result < length c.self.inside.ribs.items = omega (arith, marked, c.from.ensures, ap (λ (ribs : Ribs). length ribs) c.self.view_is) in
    let entry = rib_is ribs c.args.self.now c.from.result c.args.rib c.index_mut.result.now c.self.view_is c.from.ensures within c.index_mut.ensures.value in
    subst (λ (old : RibState). IfOk c.refresh.result (λ change. change.old ≡ best_of_row (row_in old c.args.prefix))) entry c.refresh.ensures.old

pub returns-clause-uses : goal.returns-clause-uses
returns-clause-uses c =
    let ribs = c.self.inside.ribs.items in
    let marked = within_from c.args.known.now c.args.self.now c.args.rib c.args.prefix c.requires.least.passes in
    let within : c.from.result < length c.self.inside.ribs.items = omega (arith, marked, c.from.ensures, ap (λ (ribs : Ribs). length ribs) c.self.view_is) in
    let entry = rib_is ribs ribs c.from.result c.from.result c.index_mut.result.now refl refl within c.index_mut.ensures.value in
    let new = c.refresh.new.self in
    let replaces = subst (λ (old : RibState). OnOk c.refresh.result (Replaces old new c.args.prefix c.args.candidates)) entry c.refresh.ensures.refs in
    let moves = subst (λ (old : RibState). IfOk c.refresh.result (λ change. Moves c.args.table.now c.refresh.new.table (refs_in (candidates_of (row_in old c.args.prefix))) (refs_of_change change))) entry c.refresh.ensures.uses in
    subst (λ (now : Ribs). IfOk c.refresh.result (λ change. Moves c.args.table.now c.refresh.new.table (refs_of now ++ refs_in c.args.candidates) (refs_of (slice_set ribs c.from.result new) ++ refs_of_change change))) c.self.view_is
    (uses_refreshed c.args.table.now c.refresh.new.table ribs c.from.result new c.args.prefix c.args.candidates within c.refresh.result replaces moves)

pub returns-clause-came : goal.returns-clause-came
returns-clause-came c =
    let ribs = c.self.inside.ribs.items in
    let marked = within_from c.args.known.now c.args.self.now c.args.rib c.args.prefix c.requires.least.passes in
    let within : c.from.result < length c.self.inside.ribs.items = omega (arith, marked, c.from.ensures, ap (λ (ribs : Ribs). length ribs) c.self.view_is) in
    let entry = rib_is ribs ribs c.from.result c.from.result c.index_mut.result.now refl refl within c.index_mut.ensures.value in
    let new = c.refresh.new.self in
    let replaces = subst (λ (old : RibState). OnOk c.refresh.result (Replaces old new c.args.prefix c.args.candidates)) entry c.refresh.ensures.refs in
    let moves = subst (λ (old : RibState). IfOk c.refresh.result (λ change. Moves c.args.table.now c.refresh.new.table (refs_in (candidates_of (row_in old c.args.prefix))) (refs_of_change change))) entry c.refresh.ensures.uses in
    let spreads = subst (λ (old : RibState). OnOk c.refresh.result (Spreads old new c.args.candidates)) entry c.refresh.ensures.each in
    let first = subst (λ (old : RibState). IfOk c.refresh.result (λ change. change.old ≡ best_of_row (row_in old c.args.prefix))) entry c.refresh.ensures.old in
    let came = subst (λ (now : Ribs). CameFrom c.args.table.now (refs_of now ++ refs_in c.args.candidates)) (sym c.self.view_is) c.requires.came in
    came_refreshed c.args.table.now c.refresh.new.table ribs c.from.result new c.args.prefix c.args.candidates within c.args.med_always c.refresh.result came first c.refresh.ensures.new replaces spreads moves
