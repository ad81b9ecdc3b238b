-- A row stays in order of session.
use Rattle.std.proofs.Common.{◌≡◌, ℕ, ◌<◌, ◌==◌, nat_lt, Bool, true, false, cond, not, List, [], ◌∷◌, Option, Some, None, is_some, refl, subst, arith}
use Rattle.std.specs.List.{AllByRecursion}
use Rattle.std.proofs.lemmas.Bool.{eqb-true, eqb-false, ltb-true, ltb-false}
use Rattle.attr_model.specs.Numbered.{Numbered}
use Rattle.adj_rib_in.specs.declared.row.Entry.{Entry}
use Rattle.adj_rib_in.specs.Row.{IsInOrder, attrs_of, replaced, inserted, put, without}

abbrev AllAbove : ℕ → List Entry → Type 0
AllAbove session row = AllByRecursion (λ entry. session < entry.session) row

-- whatever is above a number is above those below it
above : (low session : ℕ) (row : List Entry) → low < session → AllAbove session row → AllAbove low row
above low session [] lt all = tt
above low session (entry ∷ rest) lt all = (omega (arith, lt, all.0), above low session rest lt all.1)

above_without : (low session : ℕ) (row : List Entry) → AllAbove low row → AllAbove low (without session row)
above_without low session [] all = tt
above_without low session (entry ∷ rest) all = go (above_without low session rest all.1) (entry.session == session)
  where
    go : AllAbove low (without session rest) → (b : Bool) → AllAbove low (cond (not b) (entry ∷ without session rest) (without session rest))
    go rec true = rec
    go rec false = (all.0, rec)

pub in_order_without : (session : ℕ) (row : List Entry) → IsInOrder row → IsInOrder (without session row)
in_order_without session [] order = tt
in_order_without session (entry ∷ rest) order = go (in_order_without session rest order.1) (entry.session == session)
  where
    go : IsInOrder (without session rest) → (b : Bool) → IsInOrder (cond (not b) (entry ∷ without session rest) (without session rest))
    go rec true = rec
    go rec false = (above_without entry.session session rest order.0, rec)

above_replaced : (low : ℕ) (route : Entry) (row : List Entry) → AllAbove low row → AllAbove low (replaced route row)
above_replaced low route [] all = tt
above_replaced low route (entry ∷ rest) all = go (above_replaced low route rest all.1) (entry.session == route.session) refl
  where
    go : AllAbove low (replaced route rest) → (b : Bool) → (entry.session == route.session) ≡ b → AllAbove low (cond b (route ∷ rest) (entry ∷ replaced route rest))
    go rec true e = (omega (arith, all.0, eqb-true _ _ e), all.1)
    go rec false e = (all.0, rec)

in_order_replaced : (route : Entry) (row : List Entry) → IsInOrder row → IsInOrder (replaced route row)
in_order_replaced route [] order = tt
in_order_replaced route (entry ∷ rest) order = go (in_order_replaced route rest order.1) (entry.session == route.session) refl
  where
    go : IsInOrder (replaced route rest) → (b : Bool) → (entry.session == route.session) ≡ b → IsInOrder (cond b (route ∷ rest) (entry ∷ replaced route rest))
    go rec true e = (subst (λ n. AllAbove n rest) (eqb-true _ _ e) order.0, order.1)
    go rec false e = (above_replaced entry.session route rest order.0, rec)

above_inserted : (low : ℕ) (route : Entry) (row : List Entry) → low < route.session → AllAbove low row → AllAbove low (inserted route row)
above_inserted low route [] lt all = (lt, tt)
above_inserted low route (entry ∷ rest) lt all = go (above_inserted low route rest lt all.1) (nat_lt route.session entry.session)
  where
    go : AllAbove low (inserted route rest) → (b : Bool) → AllAbove low (cond b (route ∷ entry ∷ rest) (entry ∷ inserted route rest))
    go rec true = (lt, all)
    go rec false = (all.0, rec)

in_order_inserted : (route : Entry) (row : List Entry) → attrs_of route.session row ≡ None → IsInOrder row → IsInOrder (inserted route row)
in_order_inserted route [] none order = (tt, tt)
in_order_inserted route (entry ∷ rest) none order = go (λ nothing. in_order_inserted route rest nothing order.1) (nat_lt route.session entry.session) refl (entry.session == route.session) refl none
  where
    some : Some entry.attrs ≡ None → ⊥
    some e = cc

    go : (attrs_of route.session rest ≡ None → IsInOrder (inserted route rest)) → (b : Bool) → nat_lt route.session entry.session ≡ b → (c : Bool) → (entry.session == route.session) ≡ c
        → cond c (Some entry.attrs) (attrs_of route.session rest) ≡ None → IsInOrder (cond b (route ∷ entry ∷ rest) (entry ∷ inserted route rest))
    go rec true e c f nothing = ((ltb-true _ _ e, above route.session entry.session rest (ltb-true _ _ e) order.0), order)
    go rec false e true f nothing = absurd (some nothing)
    go rec false e false f nothing = (above_inserted entry.session route rest (omega (arith, ltb-false route.session entry.session e, eqb-false _ _ f)) order.0, rec nothing)

pub in_order_put : (route : Entry) (row : List Entry) → IsInOrder row → IsInOrder (put route row)
in_order_put route row order = go (attrs_of route.session row) refl
  where
    go : (o : Option Numbered) → attrs_of route.session row ≡ o → IsInOrder (cond (is_some o) (replaced route row) (inserted route row))
    go None e = in_order_inserted route row e order
    go (Some attrs) e = in_order_replaced route row order
