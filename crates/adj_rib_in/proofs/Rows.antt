-- What the place of a session's route says of its row.
use Rattle.std.proofs.Common.{◌≡◌, ℕ, suc, ◌+◌, ◌<◌, ◌≤◌, ◌==◌, nat_lt, Bool, true, false, cond, not, List, [], ◌∷◌, ◌++◌, length, Option, Some, None, is_some, take, drop, refl, sym, ap, subst, ◌∙◌, arith}
use Rattle.std.specs.Prelude.{slice_index_or, slice_set, position, unwrap_or}
use Rattle.std.specs.List.{position_or_len, AllByRecursion}
use Rattle.std.proofs.lemmas.Bool.{ltb-false, eqb-true}
use Rattle.std.proofs.lemmas.List.Sums.{prefix_len-le-length}
use Rattle.attr_model.specs.Numbered.{Numbered}
use Rattle.adj_rib_in.specs.declared.row.Entry.{Entry}
use Rattle.adj_rib_in.specs.Row.{attrs_of, replaced, inserted, put, without, IsInOrder}

abbrev pub place_of : ℕ → List Entry → ℕ
place_of session row = position_or_len (λ entry. entry.session == session) row

abbrev pub place_for : ℕ → List Entry → ℕ
place_for session row = position_or_len (λ entry. nat_lt session entry.session) row

-- a place, or the length where there is none
pub place_is : (p : Entry → Bool) (row : List Entry) → unwrap_or (position p row) (length row) ≡ position_or_len p row
place_is p row = go (nat_lt (position_or_len p row) (length row)) refl
  where
    go : (b : Bool) → nat_lt (position_or_len p row) (length row) ≡ b → unwrap_or (cond b (Some (position_or_len p row)) None) (length row) ≡ position_or_len p row
    go true e = refl
    go false e = omega (arith, ltb-false _ _ e, prefix_len-le-length (λ entry. not (p entry)) row)

pub place_for-le : (session : ℕ) (row : List Entry) → place_for session row ≤ length row
place_for-le session row = prefix_len-le-length (λ entry. not (nat_lt session entry.session)) row

one_more : (n : ℕ) → 1 + n ≡ suc n
one_more n = omega arith

pub found : (session : ℕ) (row : List Entry) (d : Entry) → place_of session row < length row → attrs_of session row ≡ Some (slice_index_or row (place_of session row) d).attrs
found session [] d lt = absurd (omega (arith, lt))
found session (entry ∷ rest) d lt = go (λ below. found session rest d below) (entry.session == session) lt
  where
    go : (place_of session rest < length rest → attrs_of session rest ≡ Some (slice_index_or rest (place_of session rest) d).attrs) → (b : Bool) → cond (not b) (1 + place_of session rest) 0 < length (entry ∷ rest)
        → cond b (Some entry.attrs) (attrs_of session rest) ≡ Some (slice_index_or (entry ∷ rest) (cond (not b) (1 + place_of session rest) 0) d).attrs
    go rec true lt = refl
    go rec false lt = rec (omega (arith, lt)) ∙ ap (λ n. Some (slice_index_or (entry ∷ rest) n d).attrs) (sym (one_more (place_of session rest)))

pub absent : (session : ℕ) (row : List Entry) → length row ≤ place_of session row → attrs_of session row ≡ None
absent session [] le = refl
absent session (entry ∷ rest) le = go (λ past. absent session rest past) (entry.session == session) le
  where
    go : (length rest ≤ place_of session rest → attrs_of session rest ≡ None) → (b : Bool) → length (entry ∷ rest) ≤ cond (not b) (1 + place_of session rest) 0 → cond b (Some entry.attrs) (attrs_of session rest) ≡ None
    go rec true le = absurd (omega (arith, le))
    go rec false le = rec (omega (arith, le))

replaced_at : (route : Entry) (row : List Entry) → replaced route row ≡ slice_set row (place_of route.session row) route
replaced_at route [] = refl
replaced_at route (entry ∷ rest) = go (replaced_at route rest) (entry.session == route.session)
  where
    go : replaced route rest ≡ slice_set rest (place_of route.session rest) route → (b : Bool) → cond b (route ∷ rest) (entry ∷ replaced route rest) ≡ slice_set (entry ∷ rest) (cond (not b) (1 + place_of route.session rest) 0) route
    go rec true = refl
    go rec false = ap (λ row. entry ∷ row) rec ∙ ap (λ n. slice_set (entry ∷ rest) n route) (sym (one_more (place_of route.session rest)))

pub inserted_at : (route : Entry) (row : List Entry) → inserted route row ≡ take (place_for route.session row) row ++ route ∷ drop (place_for route.session row) row
inserted_at route [] = refl
inserted_at route (entry ∷ rest) = go (inserted_at route rest) (nat_lt route.session entry.session)
  where
    go : inserted route rest ≡ take (place_for route.session rest) rest ++ route ∷ drop (place_for route.session rest) rest → (b : Bool) → cond b (route ∷ entry ∷ rest) (entry ∷ inserted route rest)
        ≡ take (cond (not b) (1 + place_for route.session rest) 0) (entry ∷ rest) ++ route ∷ drop (cond (not b) (1 + place_for route.session rest) 0) (entry ∷ rest)
    go rec true = refl
    go rec false = ap (λ row. entry ∷ row) rec ∙ ap (λ n. take n (entry ∷ rest) ++ route ∷ drop n (entry ∷ rest)) (sym (one_more (place_for route.session rest)))

without_above : (session : ℕ) (row : List Entry) → AllByRecursion (λ entry. session < entry.session) row → without session row ≡ row
without_above session [] all = refl
without_above session (entry ∷ rest) all = go (without_above session rest all.1) (entry.session == session) refl
  where
    go : without session rest ≡ rest → (b : Bool) → (entry.session == session) ≡ b → cond (not b) (entry ∷ without session rest) (without session rest) ≡ entry ∷ rest
    go rec true e = absurd (omega (arith, all.0, eqb-true _ _ e))
    go rec false e = ap (λ row. entry ∷ row) rec

pub without_at : (session : ℕ) (row : List Entry) → IsInOrder row → without session row ≡ take (place_of session row) row ++ drop (suc (place_of session row)) row
without_at session [] order = refl
without_at session (entry ∷ rest) order = go (without_at session rest order.1) (entry.session == session) refl
  where
    go : without session rest ≡ take (place_of session rest) rest ++ drop (suc (place_of session rest)) rest → (b : Bool) → (entry.session == session) ≡ b → cond (not b) (entry ∷ without session rest) (without session rest)
        ≡ take (cond (not b) (1 + place_of session rest) 0) (entry ∷ rest) ++ drop (suc (cond (not b) (1 + place_of session rest) 0)) (entry ∷ rest)
    go rec true e = without_above session rest (subst (λ n. AllByRecursion (λ other. n < other.session) rest) (eqb-true _ _ e) order.0)
    go rec false e = ap (λ row. entry ∷ row) rec ∙ ap (λ n. take n (entry ∷ rest) ++ drop (suc n) (entry ∷ rest)) (sym (one_more (place_of session rest)))

pub without_none : (session : ℕ) (row : List Entry) → attrs_of session row ≡ None → without session row ≡ row
without_none session [] none = refl
without_none session (entry ∷ rest) none = go (λ nothing. without_none session rest nothing) (entry.session == session) none
  where
    go : (attrs_of session rest ≡ None → without session rest ≡ rest) → (b : Bool) → cond b (Some entry.attrs) (attrs_of session rest) ≡ None → cond (not b) (entry ∷ without session rest) (without session rest) ≡ entry ∷ rest
    go rec true none = absurd (some none)
      where
        some : Some entry.attrs ≡ None → ⊥
        some e = cc
    go rec false none = ap (λ row. entry ∷ row) (rec none)

pub put_found : (route : Entry) (row : List Entry) → place_of route.session row < length row → put route row ≡ slice_set row (place_of route.session row) route
put_found route row lt = ap (λ (o : Option Numbered). cond (is_some o) (replaced route row) (inserted route row)) (found route.session row route lt) ∙ replaced_at route row

pub put_absent : (route : Entry) (row : List Entry) → length row ≤ place_of route.session row → put route row ≡ take (place_for route.session row) row ++ route ∷ drop (place_for route.session row) row
put_absent route row le = ap (λ (o : Option Numbered). cond (is_some o) (replaced route row) (inserted route row)) (absent route.session row le) ∙ inserted_at route row
