use Rattle.std.proofs.Common.{◌≡◌, [], ◌∷◌, IsSome, sym, ap, ◌∙◌, subst, refl}
use Rattle.std.specs.Prelude.{IfOk}
use Rattle.std.specs.BTreeMap.{is_at}
use Rattle.net_base.specs.contracts.prefix.PrefixOrd.TheImpl.{cmp-value as derived}
use Rattle.net_base.proofs.Order.{derived_prefix_cmp}
use Rattle.adj_rib_in.specs.declared.row.Entry.{Entry}
use Rattle.adj_rib_in.specs.Row.{attrs_of, put}
use Rattle.adj_rib_in.specs.Held.{held_at, SetsRow}
use Rattle.adj_rib_in.specs.Uses.{refs_of_route}
use Rattle.adj_rib_in.proofs.Uses.{if_ok, put_ok, put_err, lent_swaps}
use Rattle.adj_rib_in.proofs.Held.{sets_row, held_is, held_none, same_row, on_ok, on_err}
use Rattle.adj_rib_in.proofs.by_prefix.RowsByPrefix.set.Goals as goal

here : (c : goal.After-self-in-Some-1) → c.in-Some.row.now ≡ held_at c.args.self.now c.args.prefix
here c = held_is derived.it derived_prefix_cmp c.self.inside.rows.entries c.args.prefix c.in-Some.row.now c.in-Some.ensures.value ∙ ap (λ held. held_at held c.args.prefix) c.self.view_is

written : (c : goal.After-self-in-Some-1) → SetsRow c.args.self.now (c.get_mut.follows.lender c.put.new.self).entries c.args.prefix c.put.new.self
written c =
    subst (λ old. SetsRow old (c.get_mut.follows.lender c.put.new.self).entries c.args.prefix c.put.new.self) c.self.view_is
    (sets_row derived.it derived_prefix_cmp c.self.inside.rows.entries (c.get_mut.follows.lender c.put.new.self).entries c.args.prefix c.put.new.self ((c.get_mut.follows.holds c.put.new.self).3 (subst (λ o. IsSome o) c.in-Some.ensures.value refl)).0)

pub returns-in-Some-clause-row : goal.returns-in-Some-clause-row
returns-in-Some-clause-row c =
    let route : Entry = record { session = c.args.session; attrs = c.args.attrs } in
    on_ok c.put.result (λ is. subst (λ row. SetsRow c.args.self.now (c.get_mut.follows.lender c.put.new.self).entries c.args.prefix row) (is ∙ ap (put route) (here c)) (written c)) c.put.ensures.row

pub returns-in-Some-clause-old : goal.returns-in-Some-clause-old
returns-in-Some-clause-old c = subst (λ row. IfOk c.put.result (λ old. old ≡ attrs_of c.args.session row)) (here c) c.put.ensures.old

pub returns-in-Some-clause-same : goal.returns-in-Some-clause-same
returns-in-Some-clause-same c =
    on_err c.put.result (λ is. same_row c.args.self.now (c.get_mut.follows.lender c.put.new.self).entries c.args.prefix (subst (λ row. SetsRow c.args.self.now (c.get_mut.follows.lender c.put.new.self).entries c.args.prefix row) (is ∙ here c) (written c))) c.put.ensures.same

pub returns-in-None-clause-row : goal.returns-in-None-clause-row
returns-in-None-clause-row c =
    let route : Entry = record { session = c.args.session; attrs = c.args.attrs } in
    let none = ap (λ held. held_at held c.args.prefix) (sym c.self.view_is) ∙ held_none derived.it derived_prefix_cmp c.self.inside.rows.entries c.args.prefix (sym c.in-None.ensures.value) in
    let same = ap (λ map. map.entries) c.get_mut.follows.holds-at-none ∙ c.self.view_is in
    on_ok c.begin.result (λ sets. subst (λ row. SetsRow c.args.self.now c.begin.new.self c.args.prefix (put route row)) (sym none) (subst (λ old. SetsRow old c.begin.new.self c.args.prefix (route ∷ [])) same sets)) c.begin.ensures.row

pub returns-in-Some-clause-swaps : goal.returns-in-Some-clause-swaps
returns-in-Some-clause-swaps c =
    let route : Entry = record { session = c.args.session; attrs = c.args.attrs } in
    let test = is_at (derived.it c.args.prefix) in
    if_ok c.put.result (λ old swaps. lent_swaps test c.self.inside.rows.entries c.args.self.now (c.get_mut.follows.lender c.put.new.self).entries c.in-Some.row.now c.put.new.self (c.args.attrs ∷ []) (refs_of_route old) c.self.view_is (c.get_mut.follows.holds c.put.new.self).0 c.in-Some.ensures.value swaps)
    (put_ok c.put.result route c.in-Some.row.now c.put.new.self c.put.ensures.row c.put.ensures.old)

pub returns-in-Some-clause-stay : goal.returns-in-Some-clause-stay
returns-in-Some-clause-stay c =
    let test = is_at (derived.it c.args.prefix) in
    on_err c.put.result (λ swaps. lent_swaps test c.self.inside.rows.entries c.args.self.now (c.get_mut.follows.lender c.put.new.self).entries c.in-Some.row.now c.put.new.self [] [] c.self.view_is (c.get_mut.follows.holds c.put.new.self).0 c.in-Some.ensures.value swaps)
    (put_err c.put.result c.in-Some.row.now c.put.new.self c.put.ensures.same)
