use Rattle.std.proofs.Common.{◌≡◌, [], length, None, sym, ap, ◌∙◌, subst}
use Rattle.std.proofs.lemmas.Bool.{eqb-true, eqb-false}
use Rattle.net_base.specs.contracts.prefix.PrefixOrd.TheImpl.{cmp-value as derived}
use Rattle.net_base.proofs.Order.{derived_prefix_cmp}
use Rattle.std.specs.List.{AllByRecursion}
use Rattle.std.specs.BTreeMap.{is_at}
use Rattle.attr_intern.specs.Table.{IsOf}
use Rattle.rib_multi.specs.Uses.{refs_of_rib}
use Rattle.decision.specs.declared.candidate.Candidate.{Candidate}
use Rattle.rib_multi.specs.Rows.{RibState, row_for, row_in, SetsRow}
use Rattle.rib_multi.proofs.Replaced.{each_put, each_gone, row_is, sets_row, nothing, row_of_none, row_of_some, refs_put, refs_gone, Replaces}
use Rattle.rib_multi.proofs.rib.Rib.put.Goals as goal

pub returns-then-is_empty-clause-row : goal.returns-then-is_empty-clause-row
returns-then-is_empty-clause-row c =
    let old : RibState = record { rows = c.self.inside.rows.entries; marks = c.self.inside.marks } in
    let new : RibState = record { rows = c.remove.new.self.entries; marks = c.self.inside.marks } in
    let empty : length c.args.row.candidates ≡ 0 = eqb-true _ _ (sym c.is_empty.ensures ∙ c.if-is_empty.true) in
    subst (λ (rib : RibState). SetsRow rib new c.args.prefix (row_for c.args.row.always c.args.row.candidates)) c.self.view_is
    (subst (SetsRow old new c.args.prefix) (row_of_none c.args.row.always c.args.row.candidates empty) (sets_row derived.it derived_prefix_cmp old new c.args.prefix None c.remove.ensures.updates.0))

pub returns-then-is_empty-clause-old : goal.returns-then-is_empty-clause-old
returns-then-is_empty-clause-old c =
    c.remove.ensures.value ∙ row_is derived.it derived_prefix_cmp c.self.inside.rows.entries c.args.prefix ∙ ap (λ (rib : RibState). row_in rib c.args.prefix) c.self.view_is

pub returns-then-is_empty-clause-refs : goal.returns-then-is_empty-clause-refs
returns-then-is_empty-clause-refs c number =
    let old : RibState = record { rows = c.self.inside.rows.entries; marks = c.self.inside.marks } in
    let new : RibState = record { rows = c.remove.new.self.entries; marks = c.self.inside.marks } in
    let empty : length c.args.row.candidates ≡ 0 = eqb-true _ _ (sym c.is_empty.ensures ∙ c.if-is_empty.true) in
    subst (λ (rib : RibState). Replaces number rib new (row_in rib c.args.prefix) c.args.row.candidates) c.self.view_is
    (subst (Replaces number old new (row_in old c.args.prefix)) (sym (nothing c.args.row.candidates empty)) (refs_gone derived.it derived_prefix_cmp old new c.args.prefix c.remove.ensures.entries number))

pub returns-clause-row : goal.returns-clause-row
returns-clause-row c =
    let old : RibState = record { rows = c.self.inside.rows.entries; marks = c.self.inside.marks } in
    let new : RibState = record { rows = c.insert.new.self.entries; marks = c.self.inside.marks } in
    let some : length c.args.row.candidates ≡ 0 → ⊥ = eqb-false _ _ (sym c.is_empty.ensures ∙ c.if-is_empty.false) in
    subst (λ (rib : RibState). SetsRow rib new c.args.prefix (row_for c.args.row.always c.args.row.candidates)) c.self.view_is
    (subst (SetsRow old new c.args.prefix) (row_of_some c.args.row some) (sets_row derived.it derived_prefix_cmp old new c.args.prefix _ c.in_ok-insert.ensures.updates.0))

pub returns-clause-old : goal.returns-clause-old
returns-clause-old c =
    c.in_ok-insert.ensures.old ∙ row_is derived.it derived_prefix_cmp c.self.inside.rows.entries c.args.prefix ∙ ap (λ (rib : RibState). row_in rib c.args.prefix) c.self.view_is

pub returns-clause-refs : goal.returns-clause-refs
returns-clause-refs c number =
    let old : RibState = record { rows = c.self.inside.rows.entries; marks = c.self.inside.marks } in
    let new : RibState = record { rows = c.insert.new.self.entries; marks = c.self.inside.marks } in
    subst (λ (rib : RibState). Replaces number rib new (row_in rib c.args.prefix) c.args.row.candidates) c.self.view_is
    (refs_put derived.it derived_prefix_cmp old new c.args.prefix c.args.row c.in_ok-insert.ensures.was_ordered c.in_ok-insert.ensures.entries number)

pub returns-then-is_empty-clause-each : goal.returns-then-is_empty-clause-each
returns-then-is_empty-clause-each c other before now =
    let old : RibState = record { rows = c.self.inside.rows.entries; marks = c.self.inside.marks } in
    let new : RibState = record { rows = c.remove.new.self.entries; marks = c.self.inside.marks } in
    each_gone (is_at (derived.it c.args.prefix)) old new c.remove.ensures.entries (IsOf other) (subst (λ (rib : RibState). AllByRecursion (IsOf other) (refs_of_rib rib)) (sym c.self.view_is) before)

pub returns-clause-each : goal.returns-clause-each
returns-clause-each c other before now =
    let old : RibState = record { rows = c.self.inside.rows.entries; marks = c.self.inside.marks } in
    let new : RibState = record { rows = c.insert.new.self.entries; marks = c.self.inside.marks } in
    each_put derived.it old new c.args.prefix c.args.row c.in_ok-insert.ensures.entries (IsOf other) (subst (λ (rib : RibState). AllByRecursion (IsOf other) (refs_of_rib rib)) (sym c.self.view_is) before) now
