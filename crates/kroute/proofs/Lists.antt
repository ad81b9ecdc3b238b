-- Lists of rows and of tables, by their keys.
use Rattle.std.proofs.Common.{◌≡◌, ◌⊎◌, ℕ, Bool, true, false, cond, List, [], ◌∷◌, Option, Some, None, Result, Ok, Err, OnErr, is_some, is_err, inl, inr, refl, sym, ap, ◌∙◌, subst, true≢false, Contains}
use Rattle.std.specs.BTreeMap.{is_at, insert_entry}
use Rattle.std.specs.Cmp.{IsTotalOrder, eq_by_cmp_equiv, nat_cmp_total}
use Rattle.std.specs.List.Sorted.{IsStrictlySortedBy}
use Rattle.std.specs.Map.{keys_of, lookup, remove_entry, set_value}
use Rattle.std.specs.Ordering.{is_eq, eq_by_cmp, nat_cmp, match_ordering}
use Rattle.std.specs.declared.cmp.Ordering.{Ordering}
use Rattle.std.specs.declared.cmp.Ordering.TheVariants.{Less, Equal, Greater}
use Rattle.std.proofs.lemmas.Map.{lookup-none}
use Rattle.std.proofs.lemmas.Map.Entries.{none_below_head, none_past_head}
use Rattle.std.proofs.lemmas.Map.Keys.{sorted_tail, IsDistinct-from_sorted}
use Rattle.net_base.specs.declared.addr.Addr.{Addr}
use Rattle.net_base.specs.declared.prefix.Prefix.{Prefix}
use Rattle.net_base.specs.Order.{prefix_cmp}
use Rattle.kroute.specs.declared.phase.Phase.{Phase}
use Rattle.kroute.specs.declared.phase.Work.{Work}
use Rattle.kroute.specs.Calls.{IsNext}
use Rattle.kroute.specs.Rows.{Rows, IsByPrefix}
use Rattle.kroute.specs.Table.{TableState}
use Rattle.kroute.specs.Tables.{HasNext, TablesState}

pub none_by_prefix : IsByPrefix []
unfolding IsStrictlySortedBy
none_by_prefix = tt

abbrev pub ByPrefix : Type 0
ByPrefix = Prefix → Prefix → Ordering

pub by_order : (cmp : ByPrefix) → cmp ≡ prefix_cmp → (rows all : Rows) → rows ≡ all → IsStrictlySortedBy cmp (keys_of all) → IsByPrefix rows
by_order cmp e rows all same sorted =
    subst (λ (r : ByPrefix). IsStrictlySortedBy r (keys_of rows)) e (subst (λ (rs : Rows). IsStrictlySortedBy cmp (keys_of rs)) (sym same) sorted)

-- a value that is put where it was
pub set_same : {K X : Type 0} (test : K → Bool) (es : List (K × X)) (v : X) → lookup test es ≡ Some v → set_value test es v ≡ es
set_same test [] v h = refl
set_same {K} {X} test (e ∷ es) v h = go (set_same test es v) (test e.0) h
  where
    one : Some e.1 ≡ Some v → v ≡ e.1
    one s = cc

    go : (lookup test es ≡ Some v → set_value test es v ≡ es) → (b : Bool) → cond b (Some e.1) (lookup test es) ≡ Some v → cond b ((e.0, v) ∷ es) (e ∷ set_value test es v) ≡ e ∷ es
    go rec true s = ap (λ (x : X). (e.0, x) ∷ es) (one s)
    go rec false s = ap (λ (xs : List (K × X)). e ∷ xs) (rec s)

-- an entry that was put in is taken out again
pub put_and_taken : {K X : Type 0} (cmp : K → K → Ordering) (k : K) (v : X) (es : List (K × X)) → is_eq (cmp k k) ≡ true → lookup (is_at (cmp k)) es ≡ None → remove_entry (is_at (cmp k)) (insert_entry cmp es k v) ≡ es
put_and_taken {K} {X} cmp k v [] same h = ap (λ b. cond b [] ((k, v) ∷ [])) same
put_and_taken {K} {X} cmp k v (e ∷ es) same h = go (put_and_taken cmp k v es same) (cmp k e.0) refl h
  where
    no : Some e.1 ≡ None → ⊥
    no s = cc

    go : (lookup (is_at (cmp k)) es ≡ None → remove_entry (is_at (cmp k)) (insert_entry cmp es k v) ≡ es) → (o : Ordering) → cmp k e.0 ≡ o → cond (is_eq o) (Some e.1) (lookup (is_at (cmp k)) es) ≡ None
        → remove_entry (is_at (cmp k)) (match_ordering o ((k, v) ∷ e ∷ es) ((e.0, v) ∷ es) (e ∷ insert_entry cmp es k v)) ≡ e ∷ es
    go rec Less is none = ap (λ b. cond b (e ∷ es) ((k, v) ∷ remove_entry (is_at (cmp k)) (e ∷ es))) same
    go rec Equal is none = absurd (no none)
    go rec Greater is none = ap (λ o. cond (is_eq o) (insert_entry cmp es k v) (e ∷ remove_entry (is_at (cmp k)) (insert_entry cmp es k v))) is ∙ ap (λ (xs : List (K × X)). e ∷ xs) (rec none)

no_call : (call : ℕ × Work) → Some call ≡ None → ⊥
no_call call s = cc

one_call : (a b : ℕ × Work) → Some a ≡ Some b → a ≡ b
one_call a b s = cc

-- The first table in order of number that has a job, with its next call.
abbrev pub IsFirst : List (ℕ × TableState) → Option (ℕ × Work) → Type 0
IsFirst [] found = found ≡ None
IsFirst (e ∷ es) found = (IsNext e.1.phase None × IsFirst es found) ⊎ ((work : Work) × IsNext e.1.phase (Some work) × (found ≡ Some (e.0, work)))

some_table : (a b : TableState) → Some a ≡ Some b → a ≡ b
some_table a b s = cc

no_table : (t : TableState) → None ≡ Some t → ⊥
no_table t s = cc

-- it is there, and its call is the next
pub first_there : (es : List (ℕ × TableState)) (n : ℕ) (work : Work) → IsStrictlySortedBy nat_cmp (keys_of es) → IsFirst es (Some (n, work)) → HasNext work (lookup (is_at (nat_cmp n)) es)
first_there [] n work sorted h = absurd (no_call (n, work) h)
first_there (e ∷ es) n work sorted (inl (idle, more)) = go (first_there es n work (sorted_tail nat_cmp e.0 (keys_of es) sorted) more) (is_eq (nat_cmp n e.0)) refl
  where
    go : HasNext work (lookup (is_at (nat_cmp n)) es) → (b : Bool) → is_eq (nat_cmp n e.0) ≡ b → HasNext work (cond b (Some e.1) (lookup (is_at (nat_cmp n)) es))
    go found false is = found
    go (t, there, next) true is = absurd (no_table t (sym (lookup-none (is_at (nat_cmp n)) es (none_past_head (eq_by_cmp_equiv nat_cmp_total) n e es (IsDistinct-from_sorted nat_cmp (keys_of (e ∷ es)) sorted) is)) ∙ there))
first_there (e ∷ es) n work sorted (inr (other, next, is)) =
    let both = one_call (n, work) (e.0, other) is in
    let same : is_eq (nat_cmp n e.0) ≡ true = ap (λ (call : ℕ × Work). is_eq (nat_cmp n call.0)) (sym both) ∙ (eq_by_cmp_equiv nat_cmp_total).refl n in
    (e.1, ap (λ b. cond b (Some e.1) (lookup (is_at (nat_cmp n)) es)) same, subst (λ (call : ℕ × Work). IsNext e.1.phase (Some call.1)) (sym both) next)

-- no table below it has a job
pub none_below : (es : List (ℕ × TableState)) (n : ℕ) (work : Work) → IsStrictlySortedBy nat_cmp (keys_of es) → IsFirst es (Some (n, work))
    → (m : ℕ) (t : TableState) → nat_cmp m n ≡ Less → lookup (is_at (nat_cmp m)) es ≡ Some t → IsNext t.phase None
none_below [] n work sorted h m t less there = absurd (no_table t there)
none_below (e ∷ es) n work sorted (inl (idle, more)) m t less there = go (λ is. none_below es n work (sorted_tail nat_cmp e.0 (keys_of es) sorted) more m t less is) (is_eq (nat_cmp m e.0)) there
  where
    go : (lookup (is_at (nat_cmp m)) es ≡ Some t → IsNext t.phase None) → (b : Bool) → cond b (Some e.1) (lookup (is_at (nat_cmp m)) es) ≡ Some t → IsNext t.phase None
    go rec true is = subst (λ (u : TableState). IsNext u.phase None) (some_table e.1 t is) idle
    go rec false is = rec is
none_below (e ∷ es) n work sorted (inr (other, next, is)) m t less there =
    let lower : nat_cmp m e.0 ≡ Less = ap (λ (call : ℕ × Work). nat_cmp m call.0) (sym (one_call (n, work) (e.0, other) is)) ∙ less in
    absurd (no_table t (sym (lookup-none (is_at (nat_cmp m)) (e ∷ es) (none_below_head nat_cmp_total m e es sorted lower)) ∙ there))

-- no table has a job
pub none_first : (es : List (ℕ × TableState)) → IsFirst es None → (m : ℕ) (t : TableState) → lookup (is_at (nat_cmp m)) es ≡ Some t → IsNext t.phase None
none_first [] h m t there = absurd (no_table t there)
none_first (e ∷ es) (inl (idle, more)) m t there = go (λ is. none_first es more m t is) (is_eq (nat_cmp m e.0)) there
  where
    go : (lookup (is_at (nat_cmp m)) es ≡ Some t → IsNext t.phase None) → (b : Bool) → cond b (Some e.1) (lookup (is_at (nat_cmp m)) es) ≡ Some t → IsNext t.phase None
    go rec true is = subst (λ (u : TableState). IsNext u.phase None) (some_table e.1 t is) idle
    go rec false is = rec is
none_first (e ∷ es) (inr (other, next, is)) m t there = absurd (no_call (e.0, other) (sym is))

abbrev pub table_of : Rows → Phase → TableState
table_of wanted phase = record { wanted = wanted; phase = phase }

pub same_table : (w v : Rows) (p q : Phase) → w ≡ v → p ≡ q → table_of w p ≡ table_of v q
same_table w v p q e h = λ i. record { wanted = e i; phase = h i }

pub err_of : {X E : Type 0} {P : Type 0} (r : Result X E) → is_err r ≡ true → OnErr r P → P
err_of (Ok x) h p = absurd (true≢false (sym h))
err_of (Err e) h p = p

pub none_of : {X : Type 0} (o : Option X) → is_some o ≡ false → o ≡ None
none_of None h = refl
none_of (Some x) h = absurd (true≢false h)

pub on_err : {X E : Type 0} {P Q : Type 0} (r : Result X E) → (P → Q) → OnErr r P → OnErr r Q
on_err (Ok x) f p = tt
on_err (Err e) f p = f p

abbrev pub state_of : List (ℕ × TableState) → List (ℕ × ℕ) → TablesState
state_of tables arranged = record { tables = tables; arranged = arranged }

-- the table that was found is put back as it was
pub put_back : (n : ℕ) (old new : List (ℕ × TableState)) (arranged : List (ℕ × ℕ)) (was is : TableState) (all : TablesState)
    → new ≡ set_value (is_at (nat_cmp n)) old is → is ≡ was → Some was ≡ lookup (is_at (nat_cmp n)) old → state_of old arranged ≡ all → state_of new arranged ≡ all
put_back n old new arranged was is all written same there view =
    ap (λ (tables : List (ℕ × TableState)). state_of tables arranged) (written ∙ ap (set_value (is_at (nat_cmp n)) old) same ∙ set_same (is_at (nat_cmp n)) old was (sym there)) ∙ view
