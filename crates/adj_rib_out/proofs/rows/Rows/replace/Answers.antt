use Rattle.std.proofs.Common.{◌≡◌, ℕ, ◌+◌, ◌&&◌, not, cond, Some, List, Option, false, is_some, sym, ap, ◌∙◌, subst, arith, None, true≢false}
use Rattle.net_base.specs.declared.prefix.Prefix.{Prefix}
use Rattle.net_base.specs.contracts.prefix.PrefixOrd.TheImpl.{cmp-value as derived}
use Rattle.net_base.proofs.Order.{derived_prefix_cmp}
use Rattle.adj_rib_out.specs.declared.rows.Row.{Row}
use Rattle.attr_model.specs.Numbered.{Numbered}
use Rattle.attr_intern.specs.Table.{times, IsOf}
use Rattle.adj_rib_out.specs.Rows.{is_same, has_row, told_of, told_in, again_of, again_in, kept_in, one_or_none, row_at}
use Rattle.adj_rib_out.proofs.Kept.{held-swap, all-set, all-found, f_of}
use Rattle.adj_rib_out.proofs.Puts.{puts, row_by, row_is, asked, unasked, and_is, some_is}
use Rattle.std.specs.BTreeMap.{is_at}
use Rattle.std.specs.List.{AllByRecursion}
use Rattle.adj_rib_out.proofs.rows.Rows.replace.Goals as goal

pub returns-clause-value : goal.returns-clause-value
returns-clause-value c =
    c.replace.ensures.value ∙ ap told_of (c.in-Some.ensures.value ∙ row_is derived.it derived_prefix_cmp c.self.inside.rows.entries c.args.prefix) ∙ ap (λ rows. told_in rows c.args.prefix) c.self.view_is

pub returns-clause-rows : goal.returns-clause-rows
returns-clause-rows c =
    let row : Row = record { told = c.replace.new.dest; again = false } in
    let old = c.self.inside.rows.entries in
    let new = (c.get_mut.follows.lender row).entries in
    let found = c.in-Some.ensures.value in
    let holds = c.get_mut.follows.holds row in
    let here : row_at old c.args.prefix ≡ Some c.in-Some.row.now = sym (row_is derived.it derived_prefix_cmp old c.args.prefix) ∙ sym found in
    let put = puts derived.it derived_prefix_cmp old new c.args.prefix (Some row) (holds.3 (some_is c.in-Some.row.now (row_by derived.it old c.args.prefix) found)).0 in
    subst (λ rows. (p : Prefix) → has_row new p ≡ has_row rows p) c.self.view_is (unasked is_some old new c.args.prefix (Some row) put (sym (ap is_some here)))

pub returns-clause-told : goal.returns-clause-told
returns-clause-told c =
    let row : Row = record { told = c.replace.new.dest; again = false } in
    let old = c.self.inside.rows.entries in
    let new = (c.get_mut.follows.lender row).entries in
    let found = c.in-Some.ensures.value in
    let holds = c.get_mut.follows.holds row in
    let here : row_at old c.args.prefix ≡ Some c.in-Some.row.now = sym (row_is derived.it derived_prefix_cmp old c.args.prefix) ∙ sym found in
    let put = puts derived.it derived_prefix_cmp old new c.args.prefix (Some row) (holds.3 (some_is c.in-Some.row.now (row_by derived.it old c.args.prefix) found)).0 in
    subst (λ rows. (p : Prefix) → told_in new p ≡ cond (is_same p c.args.prefix) c.args.wanted (told_in rows p)) c.self.view_is
    (λ p. asked told_of old new c.args.prefix (Some row) put p ∙ ap (λ wanted. cond (is_same p c.args.prefix) wanted (told_in old p)) c.replace.ensures.after)

pub returns-clause-again : goal.returns-clause-again
returns-clause-again c =
    let row : Row = record { told = c.replace.new.dest; again = false } in
    let old = c.self.inside.rows.entries in
    let new = (c.get_mut.follows.lender row).entries in
    let found = c.in-Some.ensures.value in
    let holds = c.get_mut.follows.holds row in
    let here : row_at old c.args.prefix ≡ Some c.in-Some.row.now = sym (row_is derived.it derived_prefix_cmp old c.args.prefix) ∙ sym found in
    let put = puts derived.it derived_prefix_cmp old new c.args.prefix (Some row) (holds.3 (some_is c.in-Some.row.now (row_by derived.it old c.args.prefix) found)).0 in
    subst (λ rows. (p : Prefix) → again_in new p ≡ (not (is_same p c.args.prefix) && again_in rows p)) c.self.view_is
    (λ p. asked again_of old new c.args.prefix (Some row) put p ∙ and_is (is_same p c.args.prefix) (again_in old p))

pub returns-clause-uses : goal.returns-clause-uses
returns-clause-uses c =
    let row : Row = record { told = c.replace.new.dest; again = false } in
    let old = c.self.inside.rows.entries in
    let new = (c.get_mut.follows.lender row).entries in
    let holds = c.get_mut.follows.holds row in
    let result = c.replace.result in
    subst (λ rows. (number : ℕ) → times number (kept_in new) + times number (one_or_none result) ≡ times number (kept_in rows) + times number (one_or_none c.args.wanted)) c.self.view_is
    (λ number. omega (
      arith,
      ap (λ rows. times number (kept_in rows)) holds.0,
      ap (λ told. times number (one_or_none told)) c.replace.ensures.value,
      held-swap (λ (row : Row). one_or_none row.told) (is_at (derived.it c.args.prefix)) number old c.in-Some.row.now row (sym c.in-Some.ensures.value),
      ap (λ wanted. times number (one_or_none wanted)) c.replace.ensures.after,
    ))

pub returns-clause-each : goal.returns-clause-each
returns-clause-each c =
    let row : Row = record { told = c.replace.new.dest; again = false } in
    let old = c.self.inside.rows.entries in
    let holds = c.get_mut.follows.holds row in
    λ table all new.
    subst (λ rows. AllByRecursion (IsOf table) (kept_in rows)) (sym holds.0)
    (all-set (λ (row : Row). one_or_none row.told) (is_at (derived.it c.args.prefix)) (IsOf table) old row
    (subst (λ rows. AllByRecursion (IsOf table) (kept_in rows)) (sym c.self.view_is) all)
    (subst (λ wanted. AllByRecursion (IsOf table) (one_or_none wanted)) (sym c.replace.ensures.after) new))

pub returns-clause-gone : goal.returns-clause-gone
returns-clause-gone c =
    let old = c.self.inside.rows.entries in
    λ table all.
    let P : List Numbered → Type 0 = AllByRecursion (IsOf table) in
    let found = all-found (λ (row : Row). one_or_none row.told) (is_at (derived.it c.args.prefix)) (IsOf table) old (subst (λ rows. P (kept_in rows)) (sym c.self.view_is) all) in
    subst (λ told. P (one_or_none told)) (sym c.replace.ensures.value)
    (subst (λ (o : Option Row). P (f_of (λ (row : Row). one_or_none row.told) o)) (sym c.in-Some.ensures.value) found)

pub returns-in_default-clause-gone : goal.returns-in_default-clause-gone
returns-in_default-clause-gone c =
    let none : None ≡ row_at c.args.self.now c.args.prefix =
    c.in_default.ensures.value ∙ row_is derived.it derived_prefix_cmp c.self.inside.rows.entries c.args.prefix ∙ ap (λ rows. row_at rows c.args.prefix) c.self.view_is in
    absurd (true≢false (sym c.requires ∙ sym (ap is_some none)))
