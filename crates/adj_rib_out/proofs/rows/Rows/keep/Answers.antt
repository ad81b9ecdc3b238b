use Rattle.std.proofs.Common.{◌≡◌, ◌||◌, Some, None, false, is_some, refl, sym, ap, ◌∙◌, subst}
use Rattle.net_base.specs.declared.prefix.Prefix.{Prefix}
use Rattle.net_base.specs.contracts.prefix.PrefixOrd.TheImpl.{cmp-value as derived}
use Rattle.net_base.proofs.Order.{derived_prefix_cmp}
use Rattle.adj_rib_out.specs.declared.rows.Row.{Row}
use Rattle.adj_rib_out.specs.Rows.{is_same, has_row, told_of, told_in, again_of, again_in, kept_in, one_or_none, row_at}
use Rattle.adj_rib_out.proofs.Kept.{held-insert}
use Rattle.adj_rib_out.proofs.Puts.{puts, row_by, row_is, asked, unasked, or_is, none_is}
use Rattle.adj_rib_out.proofs.rows.Rows.keep.Goals as goal

abbrev blank : Row
blank = record { told = None; again = false }

pub returns-clause-rows : goal.returns-clause-rows
returns-clause-rows c =
    let old = c.self.inside.rows.entries in
    let new = c.insert.new.self.entries in
    let put = puts derived.it derived_prefix_cmp old new c.args.prefix (Some blank) c.in_ok-insert.ensures.updates.0 in
    subst (λ rows. (p : Prefix) → has_row new p ≡ (is_same p c.args.prefix || has_row rows p)) c.self.view_is
    (λ p. asked is_some old new c.args.prefix (Some blank) put p ∙ or_is (is_same p c.args.prefix) (has_row old p))

pub returns-clause-told : goal.returns-clause-told
returns-clause-told c =
    let old = c.self.inside.rows.entries in
    let new = c.insert.new.self.entries in
    let put = puts derived.it derived_prefix_cmp old new c.args.prefix (Some blank) c.in_ok-insert.ensures.updates.0 in
    let absent : row_at old c.args.prefix ≡ None = sym (row_is derived.it derived_prefix_cmp old c.args.prefix) ∙ none_is (row_by derived.it old c.args.prefix) (sym c.contains_key.ensures ∙ c.if-contains_key.false) in
    subst (λ rows. (p : Prefix) → told_in new p ≡ told_in rows p) c.self.view_is (unasked told_of old new c.args.prefix (Some blank) put (sym (ap told_of absent)))

pub returns-clause-again : goal.returns-clause-again
returns-clause-again c =
    let old = c.self.inside.rows.entries in
    let new = c.insert.new.self.entries in
    let put = puts derived.it derived_prefix_cmp old new c.args.prefix (Some blank) c.in_ok-insert.ensures.updates.0 in
    let absent : row_at old c.args.prefix ≡ None = sym (row_is derived.it derived_prefix_cmp old c.args.prefix) ∙ none_is (row_by derived.it old c.args.prefix) (sym c.contains_key.ensures ∙ c.if-contains_key.false) in
    subst (λ rows. (p : Prefix) → again_in new p ≡ again_in rows p) c.self.view_is (unasked again_of old new c.args.prefix (Some blank) put (sym (ap again_of absent)))

pub returns-clause-kept : goal.returns-clause-kept
returns-clause-kept c =
    let old = c.self.inside.rows.entries in
    let absent = none_is (row_by derived.it old c.args.prefix) (sym c.contains_key.ensures ∙ c.if-contains_key.false) in
    ap kept_in c.in_ok-insert.ensures.entries ∙ held-insert (λ (row : Row). one_or_none row.told) derived.it old c.args.prefix blank absent refl ∙ ap kept_in c.self.view_is
