-- What bounds the parent still does behind each step.
use Rattle.std.proofs.Common.{◌≡◌, ℕ, Bool, true, false, ◌==◌, cond, List, [], ◌∷◌, is_some, Option, Some, None, if◌then◌else◌, inl, inr, refl, sym, ap, subst, ◌∙◌, eqb-true, true≢false}
use Rattle.std.specs.BTreeMap.{is_at}
use Rattle.std.specs.Cmp.{eq_by_cmp_equiv}
use Rattle.std.specs.Map.{keys_of}
use Rattle.std.specs.Option.{option_map}
use Rattle.std.specs.List.{All, AllByRecursion}
use Rattle.std.specs.List.Sorted.{IsStrictlySortedBy}
use Rattle.std.specs.Set.{remove_key}
use Rattle.std.specs.declared.cmp.Ordering.{Ordering}
use Rattle.std.specs.declared.cmp.Ordering.TheVariants.{Less}
use Rattle.std.proofs.lemmas.Bool.{eqb-false}
use Rattle.std.proofs.lemmas.List.Elements.{All-from_recursion}
use Rattle.std.proofs.lemmas.Map.Keys.{sorted_head, sorted_tail}
use Rattle.std.proofs.lemmas.Map.Made.{is_some-lookup}
use Rattle.std.proofs.lemmas.Map.Views.{All-from_any, All-insert_key, All-keys-insert_entry, All-map-remove_entry, All-remove_key}
use Rattle.net_base.specs.declared.addr.Addr.{Addr}
use Rattle.net_base.specs.declared.prefix.Prefix.{Prefix}
use Rattle.net_base.specs.Order.{addr_cmp, prefix_cmp}
use Rattle.net_base.specs.PrefixSet.{is_in}
use Rattle.net_base.proofs.Order.{addr_cmp-total, prefix_cmp-total}
use Rattle.conf_tree.proofs.InOrder.{insert_sorted}
use Rattle.conf_tree.specs.declared.conf.Conf.{Conf}
use Rattle.core_msgs.specs.declared.frame.Done.{Done}
use Rattle.core_msgs.specs.declared.frame.Frame.{Frame}
use Rattle.core_msgs.specs.declared.frame.Frame.TheVariants as frames
use Rattle.kroute.specs.declared.phase.Phase.{Phase}
use Rattle.kroute.specs.declared.phase.Phase.TheVariants.{New, Listing, Coupled, Clearing, Lost}
use Rattle.kroute.specs.declared.phase.Work.{Work}
use Rattle.kroute.specs.declared.phase.Work.TheVariants.{ListRows, PutRight, Delete}
use Rattle.kroute.specs.Calls.{IsAfter, Listed, Outside, StandsAfter, after_put}
use Rattle.kroute.specs.Phases.{decoupled, row_at, with_work}
use Rattle.kroute.specs.Rows.{Rows}
use Rattle.kroute.specs.Table.{IsListed, TableState, loses, new_table, wants, wants_no}
use Rattle.kroute.specs.Tables.{ChangesTable, SetsTable, TablesState, table_at}
use Rattle.kroute.specs.Units.{IsUnit}
use Rattle.nexthop_track.specs.Hops.{Hops, is_tracked_in}
use Rattle.parent_core.specs.declared.reloads.Stage.{Stage}
use Rattle.parent_core.specs.declared.reloads.Stage.TheVariants.{Idle, AtSession, AtDecision}
use Rattle.parent_core.specs.Calls.{Acks, Advances, ChangesKernelTable, Routes, Takes, Works}
use Rattle.parent_core.specs.Cost.{Bounds, BringsWithin, IsKnownWithin, IsStageWithin, IsTableWithin, IsWithin, ListsWithin}
use Rattle.parent_core.specs.KernelTables.{Configures, is_among, is_switched, switched_to, tables_of, taken}
use Rattle.parent_core.specs.State.{ParentState}
use Rattle.parent_core.proofs.Costs.{among}
use Rattle.parent_core.proofs.Taking.{same_number}

abbrev Among : Bounds → Prefix → Type 0
Among b q = is_in b.prefixes q ≡ true

-- ---- prefixes and hops behind a change

all_left : {K : Type 0} (test : K → Bool) (P : K → Type 0) (ks : List K) → AllByRecursion P ks → AllByRecursion P (remove_key test ks)
all_left test P [] all = tt
all_left {K} test P (x ∷ xs) all = go (all_left test P xs all.1) (test x)
  where
    go : AllByRecursion P (remove_key test xs) → (b : Bool) → AllByRecursion P (cond b xs (x ∷ remove_key test xs))
    go rec true = all.1
    go rec false = (all.0, rec)

sorted_cons : {K : Type 0} (R : K → K → Ordering) (k : K) (ks : List K) → AllByRecursion (λ y. R k y ≡ Less) ks → IsStrictlySortedBy R ks → IsStrictlySortedBy R (k ∷ ks)
unfolding IsStrictlySortedBy
sorted_cons R k ks head tail = (head, tail)

sorted_left : {K : Type 0} (R : K → K → Ordering) (test : K → Bool) (ks : List K) → IsStrictlySortedBy R ks → IsStrictlySortedBy R (remove_key test ks)
sorted_left R test [] s = s
sorted_left {K} R test (x ∷ xs) s = go (sorted_left R test xs (sorted_tail R x xs s)) (test x)
  where
    go : IsStrictlySortedBy R (remove_key test xs) → (b : Bool) → IsStrictlySortedBy R (cond b xs (x ∷ remove_key test xs))
    go rec true = sorted_tail R x xs s
    go rec false = sorted_cons R x (remove_key test xs) (all_left test (λ y. R x y ≡ Less) xs (sorted_head R x xs s)) rec

worked_known : (b : Bounds) (p : Prefix) (phase : Phase) → IsKnownWithin b phase → IsKnownWithin b (with_work p phase)
worked_known b p New within = within
worked_known b p (Listing coupled) within = within
worked_known b p (Coupled known job) within = within
worked_known b p (Clearing job) within = within
worked_known b p Lost within = within

switched_within : (b : Bounds) (n : ℕ) (on : Bool) (t : TableState) → IsTableWithin b n t → IsTableWithin b n (switched_to on t)
switched_within b n true t within = record { number = within.number; wanted = within.wanted; known = tt }
switched_within b n false t within = record { number = within.number; wanted = within.wanted; known = let_go t.phase }
  where
    let_go : (phase : Phase) → IsKnownWithin b (decoupled phase)
    let_go New = tt
    let_go (Listing coupled) = tt
    let_go (Coupled known job) = tt
    let_go (Clearing job) = tt
    let_go Lost = tt

-- ---- all tables

abbrev AreWithin : Bounds → TablesState → Type 0
AreWithin b s = (n : ℕ) (t : TableState) → table_at s n ≡ Some t → IsTableWithin b n t

no_table : (t : TableState) → None ≡ Some t → ⊥
no_table t e = cc

one_table : (t u : TableState) → Some t ≡ Some u → t ≡ u
one_table t u e = cc

-- one table is another now, or none
sets_within : (b : Bounds) (n : ℕ) (t : Option TableState) (old new : TablesState) → SetsTable t n old new → AreWithin b old → ((u : TableState) → t ≡ Some u → IsTableWithin b n u) → AreWithin b new
sets_within b n t old new sets within here m u there = go (n == m) refl (sym (sets m ∙ ap (λ c. cond c t (table_at old m)) (same_number n m)) ∙ there)
  where
    go : (c : Bool) → (n == m) ≡ c → cond c t (table_at old m) ≡ Some u → IsTableWithin b m u
    go true e is = subst (λ (k : ℕ). IsTableWithin b k u) (eqb-true n m e) (here u is)
    go false e is = within m u is

changes_within : (b : Bounds) (f : TableState → TableState) (n : ℕ) (old new : TablesState) → ChangesTable f n old new → AreWithin b old → ((t : TableState) → IsTableWithin b n t → IsTableWithin b n (f t)) → AreWithin b new
changes_within b f n old new changes within each = sets_within b n (option_map f (table_at old n)) old new changes within (go (table_at old n) refl)
  where
    go : (t : Option TableState) → table_at old n ≡ t → (u : TableState) → option_map f (table_at old n) ≡ Some u → IsTableWithin b n u
    go None e u is = absurd (no_table u (sym (ap (option_map f) e) ∙ is))
    go (Some t) e u is = subst (IsTableWithin b n) (one_table (f t) u (sym (ap (option_map f) e) ∙ is)) (each t (within n t e))

configured_within : (b : Bounds) (was is : Conf) (old new : TablesState) → Configures was is old new → ((n : ℕ) → is_among (tables_of is) n ≡ true → is_among b.numbers n ≡ true) → AreWithin b old → AreWithin b new
configured_within b was is old new configures numbers within n u there = go (is_among (tables_of is) n) refl (sym (configures n) ∙ there)
  where
    new_within : (on : Bool) → is_among b.numbers n ≡ true → IsTableWithin b n (switched_to on new_table)
    new_within on number = switched_within b n on new_table (record { number = number; wanted = All-from_recursion (Among b) [] tt; known = tt })

    kept : (turned on : Bool) (t : Option TableState) → table_at old n ≡ t → is_among b.numbers n ≡ true → IsTableWithin b n (taken turned on t)
    kept true on None e number = new_within on number
    kept false on None e number = new_within on number
    kept true on (Some t) e number = switched_within b n on t (within n t e)
    kept false on (Some t) e number = within n t e

    go : (c : Bool) → is_among (tables_of is) n ≡ c → (if c then Some (taken (is_switched was.fib_update is.fib_update) is.fib_update (table_at old n)) else None) ≡ Some u → IsTableWithin b n u
    go true e some = subst (IsTableWithin b n) (one_table _ u some) (kept (is_switched was.fib_update is.fib_update) is.fib_update (table_at old n) refl (numbers n e))
    go false e some = absurd (no_table u some)

-- ---- frames

same_within : (b : Bounds) (old new : ParentState) → new ≡ old → IsWithin b old → IsWithin b new
same_within b old new same within = subst (IsWithin b) (sym same) within

tables_within : (b : Bounds) (old new : ParentState) → new.hops ≡ old.hops → AreWithin b new.tables → IsWithin b old → IsWithin b new
tables_within b old new hops tables within = record {
  numbers = within.numbers;
  tables = tables;
  tracked = subst (λ (h : Hops). IsStrictlySortedBy addr_cmp h.tracked) (sym hops) within.tracked;
  hops = subst (λ (h : Hops). All (λ a. is_tracked_in b.hops a ≡ true) h.tracked) (sym hops) within.hops;
}

kernel_within : (b : Bounds) (f : TableState → TableState) (n : ℕ) (old new : ParentState) → ChangesKernelTable f n old new → ((t : TableState) → IsTableWithin b n t → IsTableWithin b n (f t)) → IsWithin b old → IsWithin b new
kernel_within b f n old new changes each within =
    tables_within b old new (ap (λ (s : ParentState). s.hops) changes.rest) (changes_within b f n old.tables new.tables changes.table within.tables each) within

advances_within : (b : Bounds) (stage : Stage) (old new : ParentState) (done : Done) → Advances stage old new done → IsStageWithin b stage → IsWithin b old → IsWithin b new
advances_within b Idle old new done (same, none) brings within = same_within b old new same within
advances_within b (AtSession conf items) old new done up brings within = record {
  numbers = within.numbers;
  tables = configured_within b old.conf conf old.tables new.tables up.tables brings within.tables;
  tracked = subst (λ (s : ParentState). IsStrictlySortedBy addr_cmp s.hops.tracked) (sym up.rest) within.tracked;
  hops = subst (λ (s : ParentState). All (λ a. is_tracked_in b.hops a ≡ true) s.hops.tracked) (sym up.rest) within.hops;
}
advances_within b AtDecision old new done (state, report) brings within = subst (IsWithin b) (sym state) (record { numbers = within.numbers; tables = within.tables; tracked = within.tracked; hops = within.hops })

acks_within : (b : Bounds) (generation : ℕ) (old new : ParentState) (done : Done) → Acks generation old new done → IsStageWithin b old.reloads.stage → IsWithin b old → IsWithin b new
acks_within b generation old new done acks brings within = go (generation == old.reloads.generation) refl
  where
    go : (c : Bool) → (generation == old.reloads.generation) ≡ c → IsWithin b new
    go true e = advances_within b old.reloads.stage old new done (acks.last (eqb-true generation old.reloads.generation e)) brings within
    go false e = same_within b old new (acks.other (eqb-false generation old.reloads.generation e)).0 within

pub frame_within : (frame : Frame) (old new : ParentState) (done : Done) (b : Bounds) → Takes frame old new done → BringsWithin b frame old → IsWithin b old → IsWithin b new
frame_within (frames.Ack generation) old new done b acks brings within = acks_within b generation old new done acks brings within
frame_within (frames.Track a) old new done b (state, answer) brings within = subst (IsWithin b) (sym state) (record {
  numbers = within.numbers;
  tables = within.tables;
  tracked = insert_sorted addr_cmp addr_cmp-total old.hops.tracked a within.tracked;
  hops = All-insert_key addr_cmp a (λ x. is_tracked_in b.hops x ≡ true) old.hops.tracked within.hops brings;
})
frame_within (frames.Untrack a) old new done b (state, none) brings within = subst (IsWithin b) (sym state) (record {
  numbers = within.numbers;
  tables = within.tables;
  tracked = sorted_left addr_cmp (is_at (addr_cmp a)) old.hops.tracked within.tracked;
  hops = All-remove_key (is_at (addr_cmp a)) (λ x. is_tracked_in b.hops x ≡ true) old.hops.tracked within.hops;
})
frame_within (frames.FibSet n p hop) old new done b (changes, none) brings within =
    kernel_within b (wants p hop) n old new changes (λ t here. record {
      number = here.number;
      wanted = All-keys-insert_entry prefix_cmp p hop (Among b) t.wanted here.wanted brings;
      known = worked_known b p t.phase here.known;
    }) within
frame_within (frames.FibDel n p) old new done b (changes, none) brings within =
    kernel_within b (wants_no p) n old new changes (λ t here. record {
      number = here.number;
      wanted = All-map-remove_entry (is_at (prefix_cmp p)) (λ (e : Prefix × Addr). e.0) (Among b) t.wanted here.wanted;
      known = worked_known b p t.phase here.known;
    }) within
frame_within (frames.Couple n on) old new done b (changes, none) brings within = kernel_within b (switched_to on) n old new changes (λ t here. switched_within b n on t here) within
frame_within (frames.Begin generation size) old new done b (same, none) brings within = same_within b old new same within
frame_within (frames.Piece piece) old new done b (same, none) brings within = same_within b old new same within
frame_within (frames.Commit generation) old new done b (same, none) brings within = same_within b old new same within
frame_within (frames.Up session peer asn id agreed) old new done b (same, none) brings within = same_within b old new same within
frame_within (frames.Down session) old new done b (same, none) brings within = same_within b old new same within
frame_within (frames.Routes session family withdrawn announced) old new done b (same, none) brings within = same_within b old new same within
frame_within (frames.Credit session messages) old new done b (same, none) brings within = same_within b old new same within
frame_within (frames.Refresh session family) old new done b (same, none) brings within = same_within b old new same within
frame_within (frames.Close session code sub held most) old new done b (same, none) brings within = same_within b old new same within
frame_within (frames.Nexthop hop valid) old new done b (same, none) brings within = same_within b old new same within
frame_within (frames.CtlWords words) old new done b (same, none) brings within = same_within b old new same within
frame_within (frames.CtlText text) old new done b (same, none) brings within = same_within b old new same within
frame_within (frames.CtlEnd status) old new done b (same, none) brings within = same_within b old new same within

pub route_within : (p : Prefix) (up : Bool) (old new : ParentState) (done : Done) (b : Bounds) → Routes p up old new done → IsWithin b old → IsWithin b new
route_within p up old new done b routes within = subst (IsWithin b) (sym routes.state) (record { numbers = within.numbers; tables = within.tables; tracked = within.tracked; hops = within.hops })

-- ---- a unit of work

-- what is known of a table behind a list
listed_known : (b : Bounds) (coupled : Bool) (wanted rows : Rows) (phase : Phase) → IsListed coupled wanted rows phase → All (Among b) (keys_of rows) → IsKnownWithin b phase
listed_known b true wanted rows (Coupled known job) leave within =
    (leave.0.in_order, All-from_any (eq_by_cmp_equiv prefix_cmp-total) (Among b) known (λ q h. among b.prefixes (keys_of rows) within q (sym (is_some-lookup (is_at (prefix_cmp q)) rows) ∙ sym (leave.0.has q) ∙ h)))
listed_known b false wanted rows (Coupled known job) leave within = absurd leave
listed_known b true wanted rows New leave within = absurd leave
listed_known b true wanted rows (Listing again) leave within = absurd leave
listed_known b true wanted rows (Clearing job) leave within = absurd leave
listed_known b true wanted rows Lost leave within = absurd leave
listed_known b false wanted rows New leave within = tt
listed_known b false wanted rows (Listing again) leave within = tt
listed_known b false wanted rows (Clearing job) leave within = tt
listed_known b false wanted rows Lost leave within = tt

-- a row was set or deleted
put_known : (b : Bounds) (hop : Option Addr) (p : Prefix) (phase : Phase) → (is_some hop ≡ true → Among b p) → IsKnownWithin b phase → IsKnownWithin b (after_put hop p phase)
put_known b (Some hop) p (Coupled known job) here within = (insert_sorted prefix_cmp prefix_cmp-total known p within.0, All-insert_key prefix_cmp p (Among b) known within.1 (here refl))
put_known b None p (Coupled known job) here within =
    (sorted_left prefix_cmp (λ q. is_at (prefix_cmp p) q) known within.0, All-remove_key (λ q. is_at (prefix_cmp p) q) (Among b) known within.1)
put_known b (Some hop) p New here within = tt
put_known b (Some hop) p (Listing coupled) here within = tt
put_known b (Some hop) p (Clearing job) here within = tt
put_known b (Some hop) p Lost here within = tt
put_known b None p New here within = tt
put_known b None p (Listing coupled) here within = tt
put_known b None p (Clearing job) here within = tt
put_known b None p Lost here within = tt

call_known : (b : Bounds) (work : Work) (wanted : Rows) (told : Option Rows) (old new : Phase) (listed new_listed : ℕ) → All (Among b) (keys_of wanted)
    → ((coupled : Bool) (list : Listed coupled wanted told new listed new_listed) → All (Among b) (keys_of list.rows))
    → IsKnownWithin b old → IsAfter work wanted told old new listed new_listed → IsKnownWithin b new
call_known b (ListRows coupled) wanted told old new listed new_listed within lists known after = listed_known b coupled wanted after.rows new after.leave (lists coupled after)
call_known b (PutRight p) wanted told old new listed new_listed within lists known (is, same) = subst (IsKnownWithin b) (sym is) (put_known b (row_at wanted p) p old (λ some. among b.prefixes (keys_of wanted) within p (sym (is_some-lookup (is_at (prefix_cmp p)) wanted) ∙ some)) known)
call_known b (Delete p) wanted told old new listed new_listed within lists known (is, same) = subst (IsKnownWithin b) (sym is) (put_known b None p old (λ none. absurd (true≢false (sym none))) known)

outcome_known : (b : Bounds) (failed : Bool) (work : Work) (wanted : Rows) (told : Option Rows) (old new : Phase) (listed new_listed : ℕ) → All (Among b) (keys_of wanted)
    → ((coupled : Bool) (list : Listed coupled wanted told new listed new_listed) → All (Among b) (keys_of list.rows))
    → IsKnownWithin b old → StandsAfter failed work wanted told old new listed new_listed → IsKnownWithin b new
outcome_known b true work wanted told old new listed new_listed within lists known (is, same) = subst (IsKnownWithin b) (sym is) tt
outcome_known b false work wanted told old new listed new_listed within lists known after = call_known b work wanted told old new listed new_listed within lists known after

pub unit_within : (old new : ParentState) (done : Done) (before behind : Outside) (b : Bounds) → Works old new done before behind → ListsWithin b before behind → IsWithin b old → IsWithin b new
unit_within old new done before behind b works lists within = tables_within b old new (ap (λ (s : ParentState). s.hops) works.rest) (go works.unit) within
  where
    go : IsUnit works.lost old.tables new.tables before behind → AreWithin b new.tables
    go (inl idles) = subst (AreWithin b) (sym idles.same) within.tables
    go (inr (inl due)) = changes_within b loses due.number old.tables new.tables due.tables within.tables (λ t here. record { number = here.number; wanted = here.wanted; known = tt })
    go (inr (inr calls)) =
        let call = calls.call in
        let here : IsTableWithin b calls.number call.was = within.tables calls.number call.was call.there in
        let known : IsKnownWithin b call.is.phase = outcome_known b calls.failed calls.work call.was.wanted (before.held calls.number) call.was.phase call.is.phase before.listed behind.listed here.wanted
        (λ coupled list. lists calls.number coupled call.was.wanted call.is.phase list) here.known call.outcome.phase in
        let is : IsTableWithin b calls.number call.is = record { number = here.number; wanted = subst (λ (rows : Rows). All (Among b) (keys_of rows)) (sym call.outcome.wanted) here.wanted; known = known } in
        sets_within b calls.number (Some call.is) old.tables new.tables call.tables within.tables (λ u some. subst (IsTableWithin b calls.number) (one_table call.is u some) is)
