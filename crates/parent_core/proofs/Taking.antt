-- Kernel tables that are forgotten or taken up one by one, at every number.
use Rattle.std.proofs.Common.{◌≡◌, ℕ, Bool, true, false, not, ◌&&◌, ◌||◌, ◌==◌, cond, List, [], ◌∷◌, Option, Some, None, if◌then◌else◌, refl, sym, ap, ◌∙◌, eqb-true, true≢false, arith}
use Rattle.std.specs.BTreeMap.{is_at}
use Rattle.std.specs.Map.{keys_of, lookup}
use Rattle.std.specs.Ordering.{is_eq, nat_cmp}
use Rattle.kroute.specs.declared.phase.Phase.{Phase}
use Rattle.kroute.specs.declared.phase.Phase.TheVariants.{New, Listing, Coupled, Clearing, Lost}
use Rattle.kroute.specs.Phases.{decoupled}
use Rattle.kroute.specs.Rows.{Rows}
use Rattle.kroute.specs.Table.{TableState}
use Rattle.kroute.specs.Tables.{TablesState, SetsTable, table_at}
use Rattle.parent_core.specs.KernelTables.{is_among, taken}

pub same_number : (k n : ℕ) → is_eq (nat_cmp k n) ≡ (k == n)
same_number k n = grind arith

pub same_number_back : (k n : ℕ) → is_eq (nat_cmp n k) ≡ (k == n)
same_number_back k n = grind arith

-- the table of this number, without those that are left to be looked at and aren't kept
abbrev pub dropped : List ℕ → List ℕ → Option TableState → ℕ → Option TableState
dropped kept left table n = if is_among left n && not (is_among kept n) then None else table

-- a table that isn't kept is removed
one_dropped : (kept left : List ℕ) (k : ℕ) (old new : TablesState) → is_among kept k ≡ false → SetsTable None k old new
    → (n : ℕ) → dropped kept left (table_at new n) n ≡ dropped kept (k ∷ left) (table_at old n) n
one_dropped kept left k old new gone sets n = ap (λ t. dropped kept left t n) now ∙ go (k == n) refl
  where
    now : table_at new n ≡ cond (k == n) None (table_at old n)
    now = sets n ∙ ap (λ b. cond b None (table_at old n)) (same_number k n)

    none : (a b : Bool) → b ≡ false → (if a && not b then None else None) ≡ (if not b then None else table_at old n)
    none true false e = refl
    none false false e = refl
    none a true e = absurd (true≢false e)

    go : (b : Bool) → (k == n) ≡ b → dropped kept left (cond b None (table_at old n)) n ≡ (if (b || is_among left n) && not (is_among kept n) then None else table_at old n)
    go true e = none (is_among left n) (is_among kept n) (ap (is_among kept) (sym (eqb-true k n e)) ∙ gone)
    go false e = refl

-- a table that is kept stays
one_kept : (kept left : List ℕ) (k : ℕ) (old : TablesState) → is_among kept k ≡ true
    → (n : ℕ) → dropped kept left (table_at old n) n ≡ dropped kept (k ∷ left) (table_at old n) n
one_kept kept left k old stays n = go (k == n) refl
  where
    same : (a b : Bool) → b ≡ true → (if a && not b then None else table_at old n) ≡ (if not b then None else table_at old n)
    same true true e = refl
    same false true e = refl
    same a false e = absurd (true≢false (sym e))

    go : (b : Bool) → (k == n) ≡ b → dropped kept left (table_at old n) n ≡ (if (b || is_among left n) && not (is_among kept n) then None else table_at old n)
    go true e = same (is_among left n) (is_among kept n) (ap (is_among kept) (sym (eqb-true k n e)) ∙ stays)
    go false e = refl

-- one more table is looked at
pub one_looked_at : (kept left : List ℕ) (k : ℕ) (old new : TablesState) → (is_among kept k ≡ true → new ≡ old) → (is_among kept k ≡ false → SetsTable None k old new)
    → (n : ℕ) → dropped kept left (table_at new n) n ≡ dropped kept (k ∷ left) (table_at old n) n
one_looked_at kept left k old new stays goes n = go (is_among kept k) refl
  where
    go : (b : Bool) → is_among kept k ≡ b → dropped kept left (table_at new n) n ≡ dropped kept (k ∷ left) (table_at old n) n
    go true e = ap (λ (s : TablesState). dropped kept left (table_at s n) n) (stays e) ∙ one_kept kept left k old e n
    go false e = one_dropped kept left k old new e (goes e) n

-- a number that isn't among the keys has no entry
none_there : {X : Type 0} (es : List (ℕ × X)) (n : ℕ) → is_among (keys_of es) n ≡ false → lookup (is_at (nat_cmp n)) es ≡ None
none_there [] n h = refl
none_there {X} (e ∷ es) n h = ap (λ b. cond b (Some e.1) (lookup (is_at (nat_cmp n)) es)) (same_number_back e.0 n) ∙ go (none_there es n) (e.0 == n) h
  where
    go : (is_among (keys_of es) n ≡ false → lookup (is_at (nat_cmp n)) es ≡ None) → (b : Bool) → (b || is_among (keys_of es) n) ≡ false → cond b (Some e.1) (lookup (is_at (nat_cmp n)) es) ≡ None
    go rest true h = absurd (true≢false h)
    go rest false h = rest h

-- all tables that aren't kept are removed
pub all_dropped : (kept : List ℕ) (s : TablesState) (n : ℕ) → dropped kept (keys_of s.tables) (table_at s n) n ≡ (if is_among kept n then table_at s n else None)
all_dropped kept s n = go (is_among (keys_of s.tables) n) (is_among kept n) (none_there s.tables n)
  where
    go : (a b : Bool) → (a ≡ false → table_at s n ≡ None) → (if a && not b then None else table_at s n) ≡ (if b then table_at s n else None)
    go true true none = refl
    go true false none = refl
    go false true none = refl
    go false false none = none refl

abbrev table_of : Rows → Phase → TableState
table_of wanted phase = record { wanted = wanted; phase = phase }

-- a table that was decoupled stays as it is where it is decoupled again
decoupled_again : (phase : Phase) → decoupled (decoupled phase) ≡ decoupled phase
decoupled_again New = refl
decoupled_again (Listing coupled) = refl
decoupled_again (Coupled known job) = refl
decoupled_again (Clearing job) = refl
decoupled_again Lost = refl

-- a table that was taken up stays as it is where it is taken up again
taken_again : (switched on : Bool) (t : Option TableState) → taken switched on (Some (taken switched on t)) ≡ taken switched on t
taken_again true true None = refl
taken_again true true (Some t) = refl
taken_again true false None = refl
taken_again true false (Some t) = ap (λ (phase : Phase). table_of t.wanted phase) (decoupled_again t.phase)
taken_again false on None = refl
taken_again false on (Some t) = refl

-- the table of this number, with those that are left to be taken up taken up
abbrev pub taken_where : Bool → Bool → List ℕ → Option TableState → ℕ → Option TableState
taken_where switched on left table n = if is_among left n then Some (taken switched on table) else table

-- one more table is taken up
pub one_taken : (switched on : Bool) (left : List ℕ) (k : ℕ) (old new : TablesState) → SetsTable (Some (taken switched on (table_at old k))) k old new
    → (n : ℕ) → taken_where switched on left (table_at new n) n ≡ taken_where switched on (k ∷ left) (table_at old n) n
one_taken switched on left k old new sets n = ap (λ t. taken_where switched on left t n) now ∙ go (k == n) refl
  where
    now : table_at new n ≡ cond (k == n) (Some (taken switched on (table_at old k))) (table_at old n)
    now = sets n ∙ ap (λ b. cond b (Some (taken switched on (table_at old k))) (table_at old n)) (same_number k n)

    again : (a : Bool) (t : Option TableState) → (if a then Some (taken switched on (Some (taken switched on t))) else Some (taken switched on t)) ≡ Some (taken switched on t)
    again true t = ap Some (taken_again switched on t)
    again false t = refl

    go : (b : Bool) → (k == n) ≡ b → taken_where switched on left (cond b (Some (taken switched on (table_at old k))) (table_at old n)) n
        ≡ (if b || is_among left n then Some (taken switched on (table_at old n)) else table_at old n)
    go true e = again (is_among left n) (table_at old k) ∙ ap (λ m. Some (taken switched on (table_at old m))) (eqb-true k n e)
    go false e = refl
