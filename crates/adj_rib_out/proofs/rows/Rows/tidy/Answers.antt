use Rattle.std.proofs.Common.{◌≡◌, None, false, is_some, sym, ap, ◌∙◌, subst}
use Rattle.net_base.specs.declared.prefix.Prefix.{Prefix}
use Rattle.net_base.specs.contracts.prefix.PrefixOrd.TheImpl.{cmp-value as derived}
use Rattle.net_base.proofs.Order.{derived_prefix_cmp}
use Rattle.adj_rib_out.specs.declared.rows.Row.{Row}
use Rattle.adj_rib_out.specs.Rows.{is_same, has_row, told_of, told_in, again_of, again_in, kept_in, one_or_none, row_at}
use Rattle.adj_rib_out.proofs.Kept.{held-remove, f_of}
use Rattle.adj_rib_out.proofs.Puts.{puts, row_is, asked, unasked, elsewhere, nothing_kept}
use Rattle.std.specs.BTreeMap.{is_at}
use Rattle.adj_rib_out.specs.Rows.{SentRows}
use Rattle.adj_rib_out.proofs.rows.Rows.tidy.Goals as goal
use Rattle.adj_rib_out.proofs.rows.Rows.tidy.Goals.{in-Some+in-Some-remove-2, in-Some+in-None-1, in-None-1}

pub returns-then-says_nothing-clause-rows : goal.returns-then-says_nothing-clause-rows
returns-then-says_nothing-clause-rows c =
    let old = c.self.inside.rows.entries in
    let new = c.remove.new.self.entries in
    let put = puts derived.it derived_prefix_cmp old new c.args.prefix None c.remove.ensures.updates.0 in
    let P : SentRows → Type 0 = λ new. (p : Prefix) → is_same p c.args.prefix ≡ false → has_row new p ≡ has_row c.args.self.now p in
    let done : P c.remove.new.self.entries =
    subst (λ rows. (p : Prefix) → is_same p c.args.prefix ≡ false → has_row new p ≡ has_row rows p) c.self.view_is
    (λ p other. asked is_some old new c.args.prefix None put p ∙ elsewhere (is_same p c.args.prefix) false (has_row old p) other) in
    elim c.match-remove.branch [
      | in-Some+in-Some-remove-2 w ↦ subst P (sym w.self-is) done
      | in-Some+in-None-1 w ↦ subst P (sym w.self-is) done
      | in-None-1 w ↦ subst P (sym w.self-is) done
    ]

pub returns-then-says_nothing-clause-told : goal.returns-then-says_nothing-clause-told
returns-then-says_nothing-clause-told c =
    let old = c.self.inside.rows.entries in
    let new = c.remove.new.self.entries in
    let put = puts derived.it derived_prefix_cmp old new c.args.prefix None c.remove.ensures.updates.0 in
    let none : told_in old c.args.prefix ≡ None = ap (λ rows. told_in rows c.args.prefix) c.self.view_is ∙ c.says_nothing.ensures.told c.if-says_nothing.true in
    let P : SentRows → Type 0 = λ new. (p : Prefix) → told_in new p ≡ told_in c.args.self.now p in
    let done : P c.remove.new.self.entries =
    subst (λ rows. (p : Prefix) → told_in new p ≡ told_in rows p) c.self.view_is (unasked told_of old new c.args.prefix None put (sym none)) in
    elim c.match-remove.branch [
      | in-Some+in-Some-remove-2 w ↦ subst P (sym w.self-is) done
      | in-Some+in-None-1 w ↦ subst P (sym w.self-is) done
      | in-None-1 w ↦ subst P (sym w.self-is) done
    ]

pub returns-then-says_nothing-clause-again : goal.returns-then-says_nothing-clause-again
returns-then-says_nothing-clause-again c =
    let old = c.self.inside.rows.entries in
    let new = c.remove.new.self.entries in
    let put = puts derived.it derived_prefix_cmp old new c.args.prefix None c.remove.ensures.updates.0 in
    let none : again_in old c.args.prefix ≡ false = ap (λ rows. again_in rows c.args.prefix) c.self.view_is ∙ c.says_nothing.ensures.again c.if-says_nothing.true in
    let P : SentRows → Type 0 = λ new. (p : Prefix) → again_in new p ≡ again_in c.args.self.now p in
    let done : P c.remove.new.self.entries =
    subst (λ rows. (p : Prefix) → again_in new p ≡ again_in rows p) c.self.view_is (unasked again_of old new c.args.prefix None put (sym none)) in
    elim c.match-remove.branch [
      | in-Some+in-Some-remove-2 w ↦ subst P (sym w.self-is) done
      | in-Some+in-None-1 w ↦ subst P (sym w.self-is) done
      | in-None-1 w ↦ subst P (sym w.self-is) done
    ]

pub returns-then-says_nothing-clause-kept : goal.returns-then-says_nothing-clause-kept
returns-then-says_nothing-clause-kept c =
    let old = c.self.inside.rows.entries in
    let none : told_in old c.args.prefix ≡ None = ap (λ rows. told_in rows c.args.prefix) c.self.view_is ∙ c.says_nothing.ensures.told c.if-says_nothing.true in
    let P : SentRows → Type 0 = λ new. kept_in new ≡ kept_in c.args.self.now in
    let done : P c.remove.new.self.entries =
    ap kept_in c.remove.ensures.entries
    ∙ held-remove (λ (row : Row). one_or_none row.told) (is_at (derived.it c.args.prefix)) old
    (ap (f_of (λ (row : Row). one_or_none row.told)) (row_is derived.it derived_prefix_cmp old c.args.prefix) ∙ nothing_kept (row_at old c.args.prefix) none)
    ∙ ap kept_in c.self.view_is in
    elim c.match-remove.branch [
      | in-Some+in-Some-remove-2 w ↦ subst P (sym w.self-is) done
      | in-Some+in-None-1 w ↦ subst P (sym w.self-is) done
      | in-None-1 w ↦ subst P (sym w.self-is) done
    ]
