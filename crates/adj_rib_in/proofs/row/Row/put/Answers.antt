use Rattle.std.proofs.Common.{◌<◌, ◌≤◌, Some, ◌++◌, ◌∷◌, take, drop, length, sym, ap, ◌∙◌, subst, arith}
use Rattle.std.specs.Prelude.{slice_set, slice_index_or}
use Rattle.adj_rib_in.specs.Row.{attrs_of, put, IsInOrder}
use Rattle.adj_rib_in.proofs.Rows.{place_of, place_for, place_for-le, found, absent, put_found, put_absent}
use Rattle.adj_rib_in.proofs.Order.{in_order_put}
use Rattle.adj_rib_in.proofs.row.Row.put.Goals as goal

pub invariant_of-self : goal.invariant_of-self
invariant_of-self c =
    let row = c.self.inside.entries.items in
    let at = c.place_of-at.ensures ∙ ap (place_of c.args.entry.session) c.as_slice.ensures.value in
    let lt : place_of c.args.entry.session row < length row = omega (arith, at, c.if-at-len.true, c.len.ensures) in
    subst IsInOrder (put_found c.args.entry row lt ∙ ap (λ n. slice_set row n c.args.entry) (sym at) ∙ ap (λ route. slice_set row c.place_of-at.result route) (sym c.replace-old.ensures.after)) (in_order_put c.args.entry row c.self.invariant)

pub returns-then-at-len-clause-row : goal.returns-then-at-len-clause-row
returns-then-at-len-clause-row c =
    let row = c.self.inside.entries.items in
    let at = c.place_of-at.ensures ∙ ap (place_of c.args.entry.session) c.as_slice.ensures.value in
    let lt : place_of c.args.entry.session row < length row = omega (arith, at, c.if-at-len.true, c.len.ensures) in
    sym (put_found c.args.entry row lt ∙ ap (λ n. slice_set row n c.args.entry) (sym at) ∙ ap (λ route. slice_set row c.place_of-at.result route) (sym c.replace-old.ensures.after)) ∙ ap (put c.args.entry) c.self.view_is

pub returns-then-at-len-clause-old : goal.returns-then-at-len-clause-old
returns-then-at-len-clause-old c =
    let row = c.self.inside.entries.items in
    let at = c.place_of-at.ensures ∙ ap (place_of c.args.entry.session) c.as_slice.ensures.value in
    let lt : place_of c.args.entry.session row < length row = omega (arith, at, c.if-at-len.true, c.len.ensures) in
    ap (λ entry. Some entry.attrs) (c.replace-old.ensures.value ∙ c.index_mut.ensures.value) ∙ ap (λ n. Some (slice_index_or row n c.index_mut.result.now).attrs) at
    ∙ sym (found c.args.entry.session row c.index_mut.result.now lt) ∙ ap (attrs_of c.args.entry.session) c.self.view_is

pub insert_at-requires : goal.insert_at-requires
insert_at-requires c =
    let row = c.self.inside.entries.items in
    let at = c.place_for-place.ensures ∙ ap (place_for c.args.entry.session) c.as_slice-2.ensures.value in
    omega (arith, at, place_for-le c.args.entry.session row)

pub invariant_of-self-2 : goal.invariant_of-self-2
invariant_of-self-2 c =
    let row = c.self.inside.entries.items in
    let at = c.place_of-at.ensures ∙ ap (place_of c.args.entry.session) c.as_slice.ensures.value in
    let le : length row ≤ place_of c.args.entry.session row = omega (arith, at, c.if-at-len.false, c.len.ensures) in
    let place = c.place_for-place.ensures ∙ ap (place_for c.args.entry.session) c.as_slice-2.ensures.value in
    subst IsInOrder (put_absent c.args.entry row le ∙ ap (λ n. take n row ++ c.args.entry ∷ drop n row) (sym place) ∙ sym c.in_ok-insert_at.ensures.ok) (in_order_put c.args.entry row c.self.invariant)

pub returns-clause-row : goal.returns-clause-row
returns-clause-row c =
    let row = c.self.inside.entries.items in
    let at = c.place_of-at.ensures ∙ ap (place_of c.args.entry.session) c.as_slice.ensures.value in
    let le : length row ≤ place_of c.args.entry.session row = omega (arith, at, c.if-at-len.false, c.len.ensures) in
    let place = c.place_for-place.ensures ∙ ap (place_for c.args.entry.session) c.as_slice-2.ensures.value in
    sym (put_absent c.args.entry row le ∙ ap (λ n. take n row ++ c.args.entry ∷ drop n row) (sym place) ∙ sym c.in_ok-insert_at.ensures.ok) ∙ ap (put c.args.entry) c.self.view_is

pub returns-clause-old : goal.returns-clause-old
returns-clause-old c =
    let row = c.self.inside.entries.items in
    let at = c.place_of-at.ensures ∙ ap (place_of c.args.entry.session) c.as_slice.ensures.value in
    let le : length row ≤ place_of c.args.entry.session row = omega (arith, at, c.if-at-len.false, c.len.ensures) in
    sym (ap (attrs_of c.args.entry.session) (sym c.self.view_is) ∙ absent c.args.entry.session row le)
