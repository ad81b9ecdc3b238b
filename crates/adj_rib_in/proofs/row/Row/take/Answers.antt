use Rattle.std.proofs.Common.{◌<◌, ◌≤◌, ◌++◌, suc, Some, take, drop, length, sym, ap, ◌∙◌, subst, arith}
use Rattle.std.specs.Prelude.{slice_index_or}
use Rattle.adj_rib_in.specs.Row.{attrs_of, without, IsInOrder}
use Rattle.adj_rib_in.proofs.Rows.{place_of, found, absent, without_at, without_none}
use Rattle.adj_rib_in.proofs.Order.{in_order_without}
use Rattle.adj_rib_in.proofs.row.Row.take.Goals as goal

pub invariant_of-self : goal.invariant_of-self
invariant_of-self c =
    let row = c.self.inside.entries.items in
    let at = c.place_of-at.ensures ∙ ap (place_of c.args.session) c.as_slice.ensures.value in
    subst IsInOrder (without_at c.args.session row c.self.invariant ∙ ap (λ n. take n row ++ drop (suc n) row) (sym at) ∙ sym c.remove.ensures.items) (in_order_without c.args.session row c.self.invariant)

pub returns-then-at-len-clause-row : goal.returns-then-at-len-clause-row
returns-then-at-len-clause-row c =
    let row = c.self.inside.entries.items in
    let at = c.place_of-at.ensures ∙ ap (place_of c.args.session) c.as_slice.ensures.value in
    sym (without_at c.args.session row c.self.invariant ∙ ap (λ n. take n row ++ drop (suc n) row) (sym at) ∙ sym c.remove.ensures.items) ∙ ap (without c.args.session) c.self.view_is

pub returns-then-at-len-clause-value : goal.returns-then-at-len-clause-value
returns-then-at-len-clause-value c =
    let row = c.self.inside.entries.items in
    let at = c.place_of-at.ensures ∙ ap (place_of c.args.session) c.as_slice.ensures.value in
    let lt : place_of c.args.session row < length row = omega (arith, at, c.if-at-len.true, c.len.ensures) in
    ap (λ entry. Some entry.attrs) c.remove.ensures.value ∙ ap (λ n. Some (slice_index_or row n c.remove.result).attrs) at
    ∙ sym (found c.args.session row c.remove.result lt) ∙ ap (attrs_of c.args.session) c.self.view_is

pub returns-clause-row : goal.returns-clause-row
returns-clause-row c =
    let row = c.self.inside.entries.items in
    let at = c.place_of-at.ensures ∙ ap (place_of c.args.session) c.as_slice.ensures.value in
    let le : length row ≤ place_of c.args.session row = omega (arith, at, c.if-at-len.false, c.len.ensures) in
    sym (without_none c.args.session c.args.self.now (ap (attrs_of c.args.session) (sym c.self.view_is) ∙ absent c.args.session row le))

pub returns-clause-value : goal.returns-clause-value
returns-clause-value c =
    let row = c.self.inside.entries.items in
    let at = c.place_of-at.ensures ∙ ap (place_of c.args.session) c.as_slice.ensures.value in
    let le : length row ≤ place_of c.args.session row = omega (arith, at, c.if-at-len.false, c.len.ensures) in
    sym (ap (attrs_of c.args.session) (sym c.self.view_is) ∙ absent c.args.session row le)
