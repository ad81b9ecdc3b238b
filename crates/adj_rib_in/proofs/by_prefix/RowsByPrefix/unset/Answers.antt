use Rattle.std.proofs.Common.{[], IsSome, sym, ap, ◌∙◌, subst, refl}
use Rattle.std.proofs.lemmas.Bool.{eqb-true}
use Rattle.net_base.specs.contracts.prefix.PrefixOrd.TheImpl.{cmp-value as derived}
use Rattle.net_base.proofs.Order.{derived_prefix_cmp}
use Rattle.adj_rib_in.specs.Row.{attrs_of, without}
use Rattle.adj_rib_in.specs.Held.{held_at, SetsRow}
use Rattle.std.specs.BTreeMap.{is_at}
use Rattle.adj_rib_in.specs.Uses.{kept, refs_of_route, Swaps}
use Rattle.adj_rib_in.proofs.Uses.{lent_swaps, take_swaps, ended_swaps, swaps_still}
use Rattle.adj_rib_in.proofs.Held.{sets_row, takes_row, sets_twice, held_is, nothing}
use Rattle.adj_rib_in.proofs.by_prefix.RowsByPrefix.unset.Goals as goal
use Rattle.adj_rib_in.proofs.by_prefix.RowsByPrefix.unset.Goals.{in-Some-1, in-None-1}

pub returns-then-is_empty-clause-row : goal.returns-then-is_empty-clause-row
returns-then-is_empty-clause-row c =
    let mid = (c.get_mut.follows.lender c.take-old.new.self).entries in
    let here = held_is derived.it derived_prefix_cmp c.self.inside.rows.entries c.args.prefix c.in_ok-row.row.now c.in_ok-row.ensures.value ∙ ap (λ held. held_at held c.args.prefix) c.self.view_is in
    let written = subst (λ old. SetsRow old mid c.args.prefix c.take-old.new.self) c.self.view_is
    (sets_row derived.it derived_prefix_cmp c.self.inside.rows.entries mid c.args.prefix c.take-old.new.self ((c.get_mut.follows.holds c.take-old.new.self).3 (subst (λ o. IsSome o) c.in_ok-row.ensures.value refl)).0) in
    let removed = takes_row derived.it derived_prefix_cmp mid c.remove.new.self.entries c.args.prefix c.remove.ensures.updates.0 in
    let empty = nothing c.take-old.new.self (eqb-true _ _ (sym c.is_empty.ensures ∙ c.if-is_empty.true)) in
    let row = sym empty ∙ c.take-old.ensures.row ∙ ap (without c.args.session) here in
    let both = sets_twice c.args.self.now mid c.remove.new.self.entries c.args.prefix [] c.take-old.new.self written removed in
    let done = subst (λ row. SetsRow c.args.self.now c.remove.new.self.entries c.args.prefix row) row both in
    elim c.match-remove.branch [
      | in-Some-1 w ↦ subst (λ new. SetsRow c.args.self.now new c.args.prefix (without c.args.session (held_at c.args.self.now c.args.prefix))) (sym w.self-is) done
      | in-None-1 w ↦ subst (λ new. SetsRow c.args.self.now new c.args.prefix (without c.args.session (held_at c.args.self.now c.args.prefix))) (sym w.self-is) done
    ]

pub returns-then-is_empty-clause-value : goal.returns-then-is_empty-clause-value
returns-then-is_empty-clause-value c =
    let here = held_is derived.it derived_prefix_cmp c.self.inside.rows.entries c.args.prefix c.in_ok-row.row.now c.in_ok-row.ensures.value ∙ ap (λ held. held_at held c.args.prefix) c.self.view_is in
    c.take-old.ensures.value ∙ ap (attrs_of c.args.session) here

pub returns-else-is_empty-clause-row : goal.returns-else-is_empty-clause-row
returns-else-is_empty-clause-row c =
    let mid = (c.get_mut.follows.lender c.take-old.new.self).entries in
    let here = held_is derived.it derived_prefix_cmp c.self.inside.rows.entries c.args.prefix c.in_ok-row.row.now c.in_ok-row.ensures.value ∙ ap (λ held. held_at held c.args.prefix) c.self.view_is in
    let written = subst (λ old. SetsRow old mid c.args.prefix c.take-old.new.self) c.self.view_is
    (sets_row derived.it derived_prefix_cmp c.self.inside.rows.entries mid c.args.prefix c.take-old.new.self ((c.get_mut.follows.holds c.take-old.new.self).3 (subst (λ o. IsSome o) c.in_ok-row.ensures.value refl)).0) in
    subst (λ row. SetsRow c.args.self.now mid c.args.prefix row) (c.take-old.ensures.row ∙ ap (without c.args.session) here) written

pub returns-else-is_empty-clause-value : goal.returns-else-is_empty-clause-value
returns-else-is_empty-clause-value c =
    let here = held_is derived.it derived_prefix_cmp c.self.inside.rows.entries c.args.prefix c.in_ok-row.row.now c.in_ok-row.ensures.value ∙ ap (λ held. held_at held c.args.prefix) c.self.view_is in
    c.take-old.ensures.value ∙ ap (attrs_of c.args.session) here

pub returns-else-is_empty-clause-swaps : goal.returns-else-is_empty-clause-swaps
returns-else-is_empty-clause-swaps c =
    lent_swaps (is_at (derived.it c.args.prefix)) c.self.inside.rows.entries c.args.self.now (c.get_mut.follows.lender c.take-old.new.self).entries c.in_ok-row.row.now c.take-old.new.self [] (refs_of_route c.take-old.result) c.self.view_is
    (c.get_mut.follows.holds c.take-old.new.self).0 c.in_ok-row.ensures.value
    (take_swaps c.args.session c.in_ok-row.row.now c.take-old.new.self c.take-old.result c.take-old.ensures.in_order c.take-old.ensures.row c.take-old.ensures.value)

pub returns-then-is_empty-clause-swaps : goal.returns-then-is_empty-clause-swaps
returns-then-is_empty-clause-swaps c =
    let test = is_at (derived.it c.args.prefix) in
    let mid = (c.get_mut.follows.lender c.take-old.new.self).entries in
    let out = refs_of_route c.take-old.result in
    let taken = lent_swaps test c.self.inside.rows.entries c.args.self.now mid c.in_ok-row.row.now c.take-old.new.self [] out c.self.view_is (c.get_mut.follows.holds c.take-old.new.self).0 c.in_ok-row.ensures.value
    (take_swaps c.args.session c.in_ok-row.row.now c.take-old.new.self c.take-old.result c.take-old.ensures.in_order c.take-old.ensures.row c.take-old.ensures.value) in
    let empty = nothing c.take-old.new.self (eqb-true _ _ (sym c.is_empty.ensures ∙ c.if-is_empty.true)) in
    let there = ((c.get_mut.follows.holds c.take-old.new.self).3 (subst (λ o. IsSome o) c.in_ok-row.ensures.value refl)).1 in
    let gone = ended_swaps test mid c.remove.new.self.entries c.take-old.new.self there empty c.remove.ensures.entries in
    let done = swaps_still (kept c.args.self.now) (kept mid) (kept c.remove.new.self.entries) out taken gone in
    elim c.match-remove.branch [
      | in-Some-1 w ↦ subst (λ new. Swaps (kept c.args.self.now) (kept new) [] out) (sym w.self-is) done
      | in-None-1 w ↦ subst (λ new. Swaps (kept c.args.self.now) (kept new) [] out) (sym w.self-is) done
    ]
