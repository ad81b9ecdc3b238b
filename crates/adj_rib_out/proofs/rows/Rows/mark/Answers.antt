use Rattle.std.proofs.Common.{◌≡◌, ◌||◌, Some, true, is_some, refl, sym, ap, ◌∙◌, subst}
use Rattle.net_base.specs.declared.prefix.Prefix.{Prefix}
use Rattle.net_base.specs.contracts.prefix.PrefixOrd.TheImpl.{cmp-value as derived}
use Rattle.net_base.proofs.Order.{derived_prefix_cmp}
use Rattle.adj_rib_out.specs.declared.rows.Row.{Row}
use Rattle.adj_rib_out.specs.Rows.{is_same, has_row, told_of, told_in, again_of, again_in, kept_in, one_or_none, row_at}
use Rattle.adj_rib_out.proofs.Kept.{held-set}
use Rattle.adj_rib_out.proofs.Puts.{puts, row_by, row_is, asked, unasked, or_is, some_is}
use Rattle.std.specs.BTreeMap.{is_at}
use Rattle.adj_rib_out.proofs.rows.Rows.mark.Goals as goal

pub returns-clause-rows : goal.returns-clause-rows
returns-clause-rows c =
    let row : Row = record { told = c.in-Some.row.now.told; again = true } in
    let old = c.self.inside.rows.entries in
    let new = (c.get_mut.follows.lender row).entries in
    let found = c.in-Some.ensures.value in
    let holds = c.get_mut.follows.holds row in
    let here : row_at old c.args.prefix ≡ Some c.in-Some.row.now = sym (row_is derived.it derived_prefix_cmp old c.args.prefix) ∙ sym found in
    let put = puts derived.it derived_prefix_cmp old new c.args.prefix (Some row) (holds.3 (some_is c.in-Some.row.now (row_by derived.it old c.args.prefix) found)).0 in
    subst (λ rows. (p : Prefix) → has_row new p ≡ has_row rows p) c.self.view_is (unasked is_some old new c.args.prefix (Some row) put (sym (ap is_some here)))

pub returns-clause-told : goal.returns-clause-told
returns-clause-told c =
    let row : Row = record { told = c.in-Some.row.now.told; again = true } in
    let old = c.self.inside.rows.entries in
    let new = (c.get_mut.follows.lender row).entries in
    let found = c.in-Some.ensures.value in
    let holds = c.get_mut.follows.holds row in
    let here : row_at old c.args.prefix ≡ Some c.in-Some.row.now = sym (row_is derived.it derived_prefix_cmp old c.args.prefix) ∙ sym found in
    let put = puts derived.it derived_prefix_cmp old new c.args.prefix (Some row) (holds.3 (some_is c.in-Some.row.now (row_by derived.it old c.args.prefix) found)).0 in
    subst (λ rows. (p : Prefix) → told_in new p ≡ told_in rows p) c.self.view_is (unasked told_of old new c.args.prefix (Some row) put (sym (ap told_of here)))

pub returns-clause-again : goal.returns-clause-again
returns-clause-again c =
    let row : Row = record { told = c.in-Some.row.now.told; again = true } in
    let old = c.self.inside.rows.entries in
    let new = (c.get_mut.follows.lender row).entries in
    let found = c.in-Some.ensures.value in
    let holds = c.get_mut.follows.holds row in
    let here : row_at old c.args.prefix ≡ Some c.in-Some.row.now = sym (row_is derived.it derived_prefix_cmp old c.args.prefix) ∙ sym found in
    let put = puts derived.it derived_prefix_cmp old new c.args.prefix (Some row) (holds.3 (some_is c.in-Some.row.now (row_by derived.it old c.args.prefix) found)).0 in
    subst (λ rows. (p : Prefix) → again_in new p ≡ (is_same p c.args.prefix || again_in rows p)) c.self.view_is
    (λ p. asked again_of old new c.args.prefix (Some row) put p ∙ or_is (is_same p c.args.prefix) (again_in old p))

pub returns-clause-kept : goal.returns-clause-kept
returns-clause-kept c =
    let row : Row = record { told = c.in-Some.row.now.told; again = true } in
    let old = c.self.inside.rows.entries in
    let holds = c.get_mut.follows.holds row in
    ap kept_in holds.0 ∙ held-set (λ (row : Row). one_or_none row.told) (is_at (derived.it c.args.prefix)) old c.in-Some.row.now row (sym c.in-Some.ensures.value) refl ∙ ap kept_in c.self.view_is
