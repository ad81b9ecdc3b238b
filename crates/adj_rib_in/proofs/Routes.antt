-- What a change of one session's route leaves of the others.
use Rattle.std.proofs.Common.{◌≡◌, ◌≢◌, ℕ, ◌==◌, nat_lt, Bool, true, false, cond, not, List, [], ◌∷◌, Option, Some, None, is_some, refl, sym, ap, ◌∙◌}
use Rattle.std.proofs.lemmas.Bool.{eqb-true, false_from_ne_true}
use Rattle.attr_model.specs.Numbered.{Numbered}
use Rattle.adj_rib_in.specs.declared.row.Entry.{Entry}
use Rattle.adj_rib_in.specs.Row.{attrs_of, replaced, inserted, put, without}

-- the route of a session goes
pub attrs_without : (session : ℕ) (row : List Entry) → attrs_of session (without session row) ≡ None
attrs_without session [] = refl
attrs_without session (entry ∷ rest) = go (attrs_without session rest) (entry.session == session) refl
  where
    go : attrs_of session (without session rest) ≡ None → (b : Bool) → (entry.session == session) ≡ b → attrs_of session (cond (not b) (entry ∷ without session rest) (without session rest)) ≡ None
    go rec true e = rec
    go rec false e = ap (λ b. cond b (Some entry.attrs) (attrs_of session (without session rest))) e ∙ rec

-- a route of another session is not that of this one
pub passed : (entry : Entry) (s session : ℕ) (rest : Option Numbered) → s ≢ session → entry.session ≡ session → cond (entry.session == s) (Some entry.attrs) rest ≡ rest
passed entry s session rest differ e = ap (λ b. cond b (Some entry.attrs) rest) (false_from_ne_true (entry.session == s) (λ same. differ (sym (eqb-true _ _ same) ∙ e)))

pub attrs_without_other : (s session : ℕ) (row : List Entry) → s ≢ session → attrs_of s (without session row) ≡ attrs_of s row
attrs_without_other s session [] differ = refl
attrs_without_other s session (entry ∷ rest) differ = go (attrs_without_other s session rest differ) (entry.session == session) refl
  where
    go : attrs_of s (without session rest) ≡ attrs_of s rest → (b : Bool) → (entry.session == session) ≡ b → attrs_of s (cond (not b) (entry ∷ without session rest) (without session rest)) ≡ attrs_of s (entry ∷ rest)
    go rec true e = rec ∙ sym (passed entry s session (attrs_of s rest) differ (eqb-true _ _ e))
    go rec false e = ap (cond (entry.session == s) (Some entry.attrs)) rec

attrs_replaced : (s : ℕ) (route : Entry) (row : List Entry) → s ≢ route.session → attrs_of s (replaced route row) ≡ attrs_of s row
attrs_replaced s route [] differ = refl
attrs_replaced s route (entry ∷ rest) differ = go (attrs_replaced s route rest differ) (entry.session == route.session) refl
  where
    go : attrs_of s (replaced route rest) ≡ attrs_of s rest → (b : Bool) → (entry.session == route.session) ≡ b → attrs_of s (cond b (route ∷ rest) (entry ∷ replaced route rest)) ≡ attrs_of s (entry ∷ rest)
    go rec true e = passed route s route.session (attrs_of s rest) differ refl ∙ sym (passed entry s route.session (attrs_of s rest) differ (eqb-true _ _ e))
    go rec false e = ap (cond (entry.session == s) (Some entry.attrs)) rec

attrs_inserted : (s : ℕ) (route : Entry) (row : List Entry) → s ≢ route.session → attrs_of s (inserted route row) ≡ attrs_of s row
attrs_inserted s route [] differ = passed route s route.session None differ refl
attrs_inserted s route (entry ∷ rest) differ = go (attrs_inserted s route rest differ) (nat_lt route.session entry.session)
  where
    go : attrs_of s (inserted route rest) ≡ attrs_of s rest → (b : Bool) → attrs_of s (cond b (route ∷ entry ∷ rest) (entry ∷ inserted route rest)) ≡ attrs_of s (entry ∷ rest)
    go rec true = passed route s route.session (attrs_of s (entry ∷ rest)) differ refl
    go rec false = ap (cond (entry.session == s) (Some entry.attrs)) rec

pub attrs_put_other : (s : ℕ) (route : Entry) (row : List Entry) → s ≢ route.session → attrs_of s (put route row) ≡ attrs_of s row
attrs_put_other s route row differ = go (is_some (attrs_of route.session row))
  where
    go : (b : Bool) → attrs_of s (cond b (replaced route row) (inserted route row)) ≡ attrs_of s row
    go true = attrs_replaced s route row differ
    go false = attrs_inserted s route row differ
