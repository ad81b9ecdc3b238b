-- How the references of the held routes go with a step.
use Rattle.std.proofs.Common.{◌≡◌, ℕ, ◌+◌, ◌==◌, ◌<◌, nat_lt, Bool, true, false, not, cond, List, [], ◌∷◌, ◌++◌, Option, Some, None, is_some, refl, sym, ap, ◌∙◌, subst, arith}
use Rattle.std.specs.Prelude.{Result, Ok, Err, IfOk, OnOk, OnErr, option_map}
use Rattle.std.specs.List.{AllByRecursion, cons_option}
use Rattle.std.specs.Map.{lookup, remove_entry, set_value}
use Rattle.std.specs.BTreeMap.{insert_entry, is_at}
use Rattle.std.specs.declared.cmp.Ordering.{Ordering}
use Rattle.std.specs.declared.cmp.Ordering.TheVariants.{Less, Equal, Greater}
use Rattle.std.specs.Ordering.{is_eq, match_ordering}
use Rattle.std.proofs.lemmas.Bool.{eqb-true}
use Rattle.net_base.specs.declared.prefix.Prefix.{Prefix}
use Rattle.attr_model.specs.Numbered.{Numbered}
use Rattle.attr_intern.specs.Table.{times, IsOf}
use Rattle.attr_intern.proofs.References.{times-cons, times-append, all_front, all_back, all_both}
use Rattle.adj_rib_in.specs.declared.row.Entry.{Entry}
use Rattle.adj_rib_in.specs.Row.{attrs_of, replaced, inserted, put, without, IsInOrder}
use Rattle.net_base.specs.Order.{prefix_cmp}
use Rattle.adj_rib_in.specs.Held.{Held, is_same, route_at, routes_of}
use Rattle.adj_rib_in.proofs.Held.{ByPrefix, entry_by}
use Rattle.adj_rib_in.specs.Uses.{refs_of_row, kept, refs_of_route, refs_of_routes, Swaps}

-- ---- steps

pub swaps_none : (ones : List Numbered) → Swaps ones ones [] []
swaps_none ones = record { uses = λ number. refl; each = λ table all coming. (all, tt) }

pub swaps_behind : (ones old new coming going : List Numbered) → Swaps old new coming going → Swaps (ones ++ old) (ones ++ new) coming going
swaps_behind ones old new coming going swaps = record {
  uses = λ number. omega (arith, swaps.uses number, times-append number ones old, times-append number ones new);
  each = λ table all comes.
      let rest = swaps.each table (all_back (IsOf table) ones old all) comes in
      (all_both (IsOf table) ones new (all_front (IsOf table) ones old all) rest.0, rest.1);
}

pub swaps_before : (ones old new coming going : List Numbered) → Swaps old new coming going → Swaps (old ++ ones) (new ++ ones) coming going
swaps_before ones old new coming going swaps = record {
  uses = λ number. omega (arith, swaps.uses number, times-append number old ones, times-append number new ones);
  each = λ table all comes.
      let rest = swaps.each table (all_front (IsOf table) old ones all) comes in
      (all_both (IsOf table) new ones rest.0 (all_back (IsOf table) old ones all), rest.1);
}

-- a step behind one by which nothing comes
pub swaps_on : (old mid new coming first second : List Numbered) → Swaps old mid [] first → Swaps mid new coming second → Swaps old new coming (first ++ second)
swaps_on old mid new coming first second one other = record {
  uses = λ number. omega (arith, one.uses number, other.uses number, times-append number first second);
  each = λ table all comes.
      let mids = one.each table all tt in
      let news = other.each table mids.0 comes in
      (news.0, all_both (IsOf table) first second mids.1 news.1);
}

-- nothing goes by the second step
pub swaps_still : (old mid new going : List Numbered) → Swaps old mid [] going → Swaps mid new [] [] → Swaps old new [] going
swaps_still old mid new going one other = record {
  uses = λ number. omega (arith, one.uses number, other.uses number);
  each = λ table all comes.
      let mids = one.each table all tt in
      ((other.each table mids.0 tt).0, mids.1);
}

-- references come in front of others
swaps_come : (ones rest : List Numbered) → Swaps rest (ones ++ rest) ones []
swaps_come ones rest = record {
  uses = λ number. omega (arith, times-append number ones rest);
  each = λ table all comes. (all_both (IsOf table) ones rest comes all, tt);
}

-- ---- one row

-- a reference comes in front of others
swaps_new : (one : Numbered) (ones : List Numbered) → Swaps ones (one ∷ ones) (one ∷ []) []
swaps_new one ones = record {
  uses = λ number. omega (arith, times-cons number one ones);
  each = λ table all comes. ((comes.0, all), tt);
}

-- a reference in front of others goes
swaps_gone : (one : Numbered) (ones : List Numbered) → Swaps (one ∷ ones) ones [] (one ∷ [])
swaps_gone one ones = record {
  uses = λ number. omega (arith, times-cons number one ones);
  each = λ table all comes. (all.1, (all.0, tt));
}

-- a reference in front of others is replaced
swaps_one : (one other : Numbered) (ones : List Numbered) → Swaps (one ∷ ones) (other ∷ ones) (other ∷ []) (one ∷ [])
swaps_one one other ones = record {
  uses = λ number. omega (arith, times-cons number one ones, times-cons number other ones);
  each = λ table all comes. ((comes.0, all.1), (all.0, tt));
}

replaced_swaps : (route : Entry) (row : List Entry) → is_some (attrs_of route.session row) ≡ true → Swaps (refs_of_row row) (refs_of_row (replaced route row)) (route.attrs ∷ []) (refs_of_route (attrs_of route.session row))
replaced_swaps route [] some = absurd (none some)
  where
    none : false ≡ true → ⊥
    none e = cc
replaced_swaps route (entry ∷ rest) some = go (λ some. replaced_swaps route rest some) (entry.session == route.session) some
  where
    go : (is_some (attrs_of route.session rest) ≡ true → Swaps (refs_of_row rest) (refs_of_row (replaced route rest)) (route.attrs ∷ []) (refs_of_route (attrs_of route.session rest)))
        → (b : Bool) → is_some (cond b (Some entry.attrs) (attrs_of route.session rest)) ≡ true
        → Swaps (refs_of_row (entry ∷ rest)) (refs_of_row (cond b (route ∷ rest) (entry ∷ replaced route rest))) (route.attrs ∷ []) (refs_of_route (cond b (Some entry.attrs) (attrs_of route.session rest)))
    go rec true some = swaps_one entry.attrs route.attrs (refs_of_row rest)
    go rec false some = swaps_behind (entry.attrs ∷ []) (refs_of_row rest) (refs_of_row (replaced route rest)) (route.attrs ∷ []) (refs_of_route (attrs_of route.session rest)) (rec some)

inserted_swaps : (route : Entry) (row : List Entry) → Swaps (refs_of_row row) (refs_of_row (inserted route row)) (route.attrs ∷ []) []
inserted_swaps route [] = swaps_new route.attrs []
inserted_swaps route (entry ∷ rest) = go (inserted_swaps route rest) (nat_lt route.session entry.session)
  where
    go : Swaps (refs_of_row rest) (refs_of_row (inserted route rest)) (route.attrs ∷ []) [] → (b : Bool)
        → Swaps (refs_of_row (entry ∷ rest)) (refs_of_row (cond b (route ∷ entry ∷ rest) (entry ∷ inserted route rest))) (route.attrs ∷ []) []
    go rec true = swaps_new route.attrs (refs_of_row (entry ∷ rest))
    go rec false = swaps_behind (entry.attrs ∷ []) (refs_of_row rest) (refs_of_row (inserted route rest)) (route.attrs ∷ []) [] rec

pub put_swaps : (route : Entry) (row : List Entry) → Swaps (refs_of_row row) (refs_of_row (put route row)) (route.attrs ∷ []) (refs_of_route (attrs_of route.session row))
put_swaps route row = go (attrs_of route.session row) refl
  where
    go : (o : Option Numbered) → attrs_of route.session row ≡ o → Swaps (refs_of_row row) (refs_of_row (put route row)) (route.attrs ∷ []) (refs_of_route (attrs_of route.session row))
    go None e = subst (λ o. Swaps (refs_of_row row) (refs_of_row (cond (is_some o) (replaced route row) (inserted route row))) (route.attrs ∷ []) (refs_of_route o)) (sym e) (inserted_swaps route row)
    go (Some one) e =
        let some : is_some (attrs_of route.session row) ≡ true = ap (λ o. is_some o) e in
        subst (λ b. Swaps (refs_of_row row) (refs_of_row (cond b (replaced route row) (inserted route row))) (route.attrs ∷ []) (refs_of_route (attrs_of route.session row))) (sym some) (replaced_swaps route row some)

without_none : (session : ℕ) (row : List Entry) → AllByRecursion (λ entry. session < entry.session) row → without session row ≡ row
without_none session [] all = refl
without_none session (entry ∷ rest) all = go (without_none session rest all.1) (entry.session == session) refl
  where
    go : without session rest ≡ rest → (b : Bool) → (entry.session == session) ≡ b → cond (not b) (entry ∷ without session rest) (without session rest) ≡ entry ∷ rest
    go rec true e = absurd (omega (arith, all.0, eqb-true _ _ e))
    go rec false e = ap (λ row. entry ∷ row) rec

pub without_swaps : (session : ℕ) (row : List Entry) → IsInOrder row → Swaps (refs_of_row row) (refs_of_row (without session row)) [] (refs_of_route (attrs_of session row))
without_swaps session [] order = swaps_none []
without_swaps session (entry ∷ rest) order = go (without_swaps session rest order.1) (entry.session == session) refl
  where
    go : Swaps (refs_of_row rest) (refs_of_row (without session rest)) [] (refs_of_route (attrs_of session rest)) → (b : Bool) → (entry.session == session) ≡ b
        → Swaps (refs_of_row (entry ∷ rest)) (refs_of_row (cond (not b) (entry ∷ without session rest) (without session rest))) [] (refs_of_route (cond b (Some entry.attrs) (attrs_of session rest)))
    go rec true e =
        let same : without session rest ≡ rest = without_none session rest (subst (λ s. AllByRecursion (λ other. s < other.session) rest) (eqb-true _ _ e) order.0) in
        subst (λ row. Swaps (refs_of_row (entry ∷ rest)) (refs_of_row row) [] (entry.attrs ∷ [])) (sym same) (swaps_gone entry.attrs (refs_of_row rest))
    go rec false e = swaps_behind (entry.attrs ∷ []) (refs_of_row rest) (refs_of_row (without session rest)) [] (refs_of_route (attrs_of session rest)) rec

-- ---- all rows

not_some : {X : Type 0} (x : X) → None ≡ Some x → ⊥
not_some x e = cc

one_row : (row other : List Entry) → Some row ≡ Some other → row ≡ other
one_row row other e = cc

-- the row that is found is replaced
pub set_swaps : (test : Prefix → Bool) (held : Held) (row now : List Entry) (coming going : List Numbered) → lookup test held ≡ Some row → Swaps (refs_of_row row) (refs_of_row now) coming going → Swaps (kept held) (kept (set_value test held now)) coming going
set_swaps test [] row now coming going is swaps = absurd (not_some row is)
set_swaps test (e ∷ es) row now coming going is swaps = go (λ is. set_swaps test es row now coming going is swaps) (test e.0) is
  where
    go : (lookup test es ≡ Some row → Swaps (kept es) (kept (set_value test es now)) coming going) → (b : Bool) → cond b (Some e.1) (lookup test es) ≡ Some row
        → Swaps (kept (e ∷ es)) (kept (cond b ((e.0, now) ∷ es) (e ∷ set_value test es now))) coming going
    go rec true is = swaps_before (kept es) (refs_of_row e.1) (refs_of_row now) coming going (subst (λ row. Swaps (refs_of_row row) (refs_of_row now) coming going) (sym (one_row e.1 row is)) swaps)
    go rec false is = swaps_behind (refs_of_row e.1) (kept es) (kept (set_value test es now)) coming going (rec is)

-- a row is put under a prefix that had none
pub begin_swaps : (cmp : Prefix → Prefix → Ordering) (held : Held) (prefix : Prefix) (row : List Entry) → lookup (is_at (cmp prefix)) held ≡ None → Swaps (kept held) (kept (insert_entry cmp held prefix row)) (refs_of_row row) []
begin_swaps cmp [] prefix row none = swaps_come (refs_of_row row) []
begin_swaps cmp (e ∷ es) prefix row none = go (λ none. begin_swaps cmp es prefix row none) (cmp prefix e.0) none
  where
    go : (lookup (is_at (cmp prefix)) es ≡ None → Swaps (kept es) (kept (insert_entry cmp es prefix row)) (refs_of_row row) []) → (o : Ordering) → cond (is_eq o) (Some e.1) (lookup (is_at (cmp prefix)) es) ≡ None
        → Swaps (kept (e ∷ es)) (kept (match_ordering o ((prefix, row) ∷ e ∷ es) ((e.0, row) ∷ es) (e ∷ insert_entry cmp es prefix row))) (refs_of_row row) []
    go rec Less none = swaps_come (refs_of_row row) (kept (e ∷ es))
    go rec Equal none = absurd (not_some e.1 (sym none))
    go rec Greater none = swaps_behind (refs_of_row e.1) (kept es) (kept (insert_entry cmp es prefix row)) (refs_of_row row) [] (rec none)

-- a row without routes goes
pub end_swaps : (test : Prefix → Bool) (held : Held) → lookup test held ≡ Some [] → Swaps (kept held) (kept (remove_entry test held)) [] []
end_swaps test [] is = swaps_none []
end_swaps test (e ∷ es) is = go (λ is. end_swaps test es is) (test e.0) is
  where
    go : (lookup test es ≡ Some [] → Swaps (kept es) (kept (remove_entry test es)) [] []) → (b : Bool) → cond b (Some e.1) (lookup test es) ≡ Some []
        → Swaps (kept (e ∷ es)) (kept (cond b es (e ∷ remove_entry test es))) [] []
    go rec true is = subst (λ row. Swaps (refs_of_row row ++ kept es) (kept es) [] []) (sym (one_row e.1 [] is)) (swaps_none (kept es))
    go rec false is = swaps_behind (refs_of_row e.1) (kept es) (kept (remove_entry test es)) [] [] (rec is)

-- ---- routes by prefix

pub route_refs : (session : ℕ) (held : Held) (prefix : Prefix) → refs_of_routes (routes_of session (prefix ∷ []) held) ≡ refs_of_route (route_at held prefix session)
route_refs session held prefix = go (route_at held prefix session)
  where
    go : (o : Option Numbered) → refs_of_routes (cons_option (option_map (λ attrs. (prefix, attrs)) o) []) ≡ refs_of_route o
    go None = refl
    go (Some one) = refl

pub routes_append : (routes others : List (Prefix × Numbered)) → refs_of_routes (routes ++ others) ≡ refs_of_routes routes ++ refs_of_routes others
routes_append [] others = refl
routes_append (route ∷ rest) others = ap (λ ones. route.1 ∷ ones) (routes_append rest others)

-- ---- outcomes

pub if_ok : {X E : Type 0} {P Q : X → Type 0} (r : Result X E) → ((x : X) → P x → Q x) → IfOk r P → IfOk r Q
if_ok (Ok x) f p = f x p
if_ok (Err e) f p = tt

pub put_ok : (r : Result (Option Numbered) Numbered) (route : Entry) (row new : List Entry) → OnOk r (new ≡ put route row) → IfOk r (λ old. old ≡ attrs_of route.session row)
    → IfOk r (λ old. Swaps (refs_of_row row) (refs_of_row new) (route.attrs ∷ []) (refs_of_route old))
put_ok (Ok old) route row new is was =
    subst (λ new. Swaps (refs_of_row row) (refs_of_row new) (route.attrs ∷ []) (refs_of_route old)) (sym is)
    (subst (λ o. Swaps (refs_of_row row) (refs_of_row (put route row)) (route.attrs ∷ []) (refs_of_route o)) (sym was) (put_swaps route row))
put_ok (Err one) route row new is was = tt

pub put_err : (r : Result (Option Numbered) Numbered) (row new : List Entry) → OnErr r (new ≡ row) → OnErr r (Swaps (refs_of_row row) (refs_of_row new) [] [])
put_err (Ok old) row new same = tt
put_err (Err one) row new same = subst (λ new. Swaps (refs_of_row row) (refs_of_row new) [] []) (sym same) (swaps_none (refs_of_row row))

-- the row that is found is replaced, in what a map lends
pub lent_swaps : (test : Prefix → Bool) (was old new : Held) (row now : List Entry) (coming going : List Numbered) → was ≡ old → new ≡ set_value test was now → Some row ≡ lookup test was
    → Swaps (refs_of_row row) (refs_of_row now) coming going → Swaps (kept old) (kept new) coming going
lent_swaps test was old new row now coming going view written found swaps =
    subst (λ old. Swaps (kept old) (kept new) coming going) view
    (subst (λ new. Swaps (kept was) (kept new) coming going) (sym written) (set_swaps test was row now coming going (sym found) swaps))

-- the first route to a prefix is put into a map
pub begun_swaps : (cmp : ByPrefix) → cmp ≡ prefix_cmp → (was old new : Held) (prefix : Prefix) (route : Entry) (row : List Entry) → was ≡ old → lookup (is_same prefix) old ≡ None → new ≡ insert_entry cmp was prefix row → row ≡ put route []
    → Swaps (kept old) (kept new) (route.attrs ∷ []) []
begun_swaps cmp e was old new prefix route row view none written one =
    let here : entry_by cmp was prefix ≡ None = ap (λ (cmp : ByPrefix). entry_by cmp was prefix) e ∙ ap (lookup (is_same prefix)) view ∙ none in
    subst (λ old. Swaps (kept old) (kept new) (route.attrs ∷ []) []) view
    (subst (λ new. Swaps (kept was) (kept new) (route.attrs ∷ []) []) (sym (written ∙ ap (insert_entry cmp was prefix) one)) (begin_swaps cmp was prefix (route ∷ []) here))

-- a route is taken out of its row
pub take_swaps : (session : ℕ) (row new : List Entry) (out : Option Numbered) → IsInOrder row → new ≡ without session row → out ≡ attrs_of session row → Swaps (refs_of_row row) (refs_of_row new) [] (refs_of_route out)
take_swaps session row new out order is was =
    subst (λ new. Swaps (refs_of_row row) (refs_of_row new) [] (refs_of_route out)) (sym is)
    (subst (λ o. Swaps (refs_of_row row) (refs_of_row (without session row)) [] (refs_of_route o)) (sym was) (without_swaps session row order))

-- a row without routes goes out of a map
pub ended_swaps : (test : Prefix → Bool) (mid new : Held) (row : List Entry) → lookup test mid ≡ Some row → row ≡ [] → new ≡ remove_entry test mid → Swaps (kept mid) (kept new) [] []
ended_swaps test mid new row is empty gone = subst (λ new. Swaps (kept mid) (kept new) [] []) (sym gone) (end_swaps test mid (is ∙ ap Some empty))

-- one more prefix is gone over
pub dropped_swaps : (initial held new : Held) (session : ℕ) (prefix : Prefix) (done now : List (Prefix × Numbered)) → Swaps (kept initial) (kept held) [] (refs_of_routes done) → Swaps (kept held) (kept new) [] (refs_of_routes (routes_of session (prefix ∷ []) held))
    → now ≡ done ++ routes_of session (prefix ∷ []) held → Swaps (kept initial) (kept new) [] (refs_of_routes now)
dropped_swaps initial held new session prefix done now before step is =
    subst (λ ones. Swaps (kept initial) (kept new) [] ones) (sym (ap refs_of_routes is ∙ routes_append done (routes_of session (prefix ∷ []) held)))
    (swaps_on (kept initial) (kept held) (kept new) [] (refs_of_routes done) (refs_of_routes (routes_of session (prefix ∷ []) held)) before step)
