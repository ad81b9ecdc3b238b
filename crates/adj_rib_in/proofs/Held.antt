-- One row changes, and all other rows stay.
use Rattle.std.proofs.Common.{◌≡◌, Bool, true, false, cond, List, [], ◌∷◌, length, arith, Option, Some, None, refl, sym, ap, ◌∙◌, subst}
use Rattle.std.specs.Prelude.{unwrap_or, Result, Ok, Err, OnOk, OnErr}
use Rattle.std.specs.List.Sorted.{IsStrictlySortedBy}
use Rattle.std.specs.Map.{keys_of, lookup}
use Rattle.std.specs.declared.cmp.Ordering.{Ordering}
use Rattle.std.specs.Ordering.{is_eq}
use Rattle.net_base.specs.Order.{prefix_cmp}
use Rattle.net_base.proofs.Order.{prefix_cmp-Equal}
use Rattle.net_base.specs.declared.prefix.Prefix.{Prefix}
use Rattle.adj_rib_in.specs.declared.row.Entry.{Entry}
use Rattle.adj_rib_in.specs.Held.{Held, held_at, is_same, SetsRow, IsSame}

unwrapped : (b : Bool) (row : List Entry) (o : Option (List Entry)) → unwrap_or (cond b (Some row) o) [] ≡ cond b row (unwrap_or o [])
unwrapped true row o = refl
unwrapped false row o = refl

taken : (b : Bool) (o : Option (List Entry)) → unwrap_or (cond b None o) [] ≡ cond b [] (unwrap_or o [])
taken true o = refl
taken false o = refl

twice : (b : Bool) (row other rest : List Entry) → cond b row (cond b other rest) ≡ cond b row rest
twice true row other rest = refl
twice false row other rest = refl

abbrev pub ByPrefix : Type 0
ByPrefix = Prefix → Prefix → Ordering

-- the entries by an order of prefixes
abbrev pub entry_by : ByPrefix → Held → Prefix → Option (List Entry)
entry_by cmp held prefix = lookup (λ other. is_eq (cmp prefix other)) held

-- the prefixes ascend
pub ascending : (cmp : ByPrefix) → cmp ≡ prefix_cmp → (held all : Held) → all ≡ held → IsStrictlySortedBy cmp (keys_of all) → IsStrictlySortedBy prefix_cmp (keys_of held)
ascending cmp e held all same sorted =
    subst (λ (r : ByPrefix). IsStrictlySortedBy r (keys_of held)) e (subst (λ (rows : Held). IsStrictlySortedBy cmp (keys_of rows)) same sorted)

-- a row is put under the prefix
pub sets_row : (cmp : ByPrefix) → cmp ≡ prefix_cmp → (old new : Held) (prefix : Prefix) (row : List Entry)
    → ((q : Prefix) → entry_by cmp new q ≡ cond (is_eq (cmp prefix q)) (Some row) (entry_by cmp old q)) → SetsRow old new prefix row
sets_row cmp e old new prefix row updates q =
    let by_order = subst (λ (cmp : ByPrefix). (q : Prefix) → entry_by cmp new q ≡ cond (is_eq (cmp prefix q)) (Some row) (entry_by cmp old q)) e updates in
    ap (λ o. unwrap_or o []) (by_order q) ∙ unwrapped (is_same prefix q) row (lookup (is_same q) old)

-- a row goes
pub takes_row : (cmp : ByPrefix) → cmp ≡ prefix_cmp → (old new : Held) (prefix : Prefix)
    → ((q : Prefix) → entry_by cmp new q ≡ cond (is_eq (cmp prefix q)) None (entry_by cmp old q)) → SetsRow old new prefix []
takes_row cmp e old new prefix updates q =
    let by_order = subst (λ (cmp : ByPrefix). (q : Prefix) → entry_by cmp new q ≡ cond (is_eq (cmp prefix q)) None (entry_by cmp old q)) e updates in
    ap (λ o. unwrap_or o []) (by_order q) ∙ taken (is_same prefix q) (lookup (is_same q) old)

-- the row that is found is the one held
pub held_is : (cmp : ByPrefix) → cmp ≡ prefix_cmp → (held : Held) (prefix : Prefix) (row : List Entry) → Some row ≡ entry_by cmp held prefix → row ≡ held_at held prefix
held_is cmp e held prefix row is = ap (λ o. unwrap_or o []) is ∙ ap (λ (cmp : ByPrefix). unwrap_or (entry_by cmp held prefix) []) e

pub held_none : (cmp : ByPrefix) → cmp ≡ prefix_cmp → (held : Held) (prefix : Prefix) → entry_by cmp held prefix ≡ None → held_at held prefix ≡ []
held_none cmp e held prefix is = sym (ap (λ (cmp : ByPrefix). unwrap_or (entry_by cmp held prefix) []) e) ∙ ap (λ o. unwrap_or o []) is

-- the row that a prefix had is put under it again
pub same_row : (old new : Held) (prefix : Prefix) → SetsRow old new prefix (held_at old prefix) → IsSame old new
same_row old new prefix sets q = sets q ∙ go (is_same prefix q) refl
  where
    go : (b : Bool) → is_same prefix q ≡ b → cond b (held_at old prefix) (held_at old q) ≡ held_at old q
    go true e = ap (held_at old) (prefix_cmp-Equal prefix q e)
    go false e = refl

pub sets_twice : (old mid new : Held) (prefix : Prefix) (row other : List Entry) → SetsRow old mid prefix other → SetsRow mid new prefix row → SetsRow old new prefix row
sets_twice old mid new prefix row other first second q = second q ∙ ap (cond (is_same prefix q) row) (first q) ∙ twice (is_same prefix q) row other (held_at old q)

pub nothing : (row : List Entry) → length row ≡ 0 → row ≡ []
nothing [] e = refl
nothing (entry ∷ rest) e = absurd (omega (arith, e))

pub one_row : (row other : List Entry) → Some row ≡ Some other → row ≡ other
one_row row other e = cc

pub on_ok : {X E : Type 0} {P Q : Type 0} (r : Result X E) → (P → Q) → OnOk r P → OnOk r Q
on_ok (Ok x) f p = f p
on_ok (Err e) f p = tt

pub on_err : {X E : Type 0} {P Q : Type 0} (r : Result X E) → (P → Q) → OnErr r P → OnErr r Q
on_err (Ok x) f p = tt
on_err (Err e) f p = f p
