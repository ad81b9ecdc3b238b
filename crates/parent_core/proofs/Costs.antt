-- What each step costs.
use Rattle.std.proofs.Common.{◌≡◌, ◌≤◌, ◌⊎◌, ℕ, ◌+◌, ◌*◌, Bool, true, false, ◌||◌, ◌==◌, cond, List, [], ◌∷◌, ◌++◌, map, length, is_some, Option, Some, None, Ok, if◌then◌else◌, inl, inr, refl, sym, ap, ◌∙◌, eqb-true, true≢false, arith}
use Rattle.std.specs.BTreeMap.{is_at}
use Rattle.std.specs.Cmp.{eq_by_cmp_equiv, nat_cmp_total}
use Rattle.std.specs.List.{All}
use Rattle.std.specs.List.Sorted.{IsStrictlySortedBy}
use Rattle.std.specs.Map.{keys_of}
use Rattle.std.specs.Option.{option_map}
use Rattle.std.specs.Ordering.{eq_by_cmp, nat_cmp}
use Rattle.std.proofs.Math.Nat.{mul-le-mul_right}
use Rattle.std.proofs.lemmas.Bool.{eqb-false}
use Rattle.std.proofs.lemmas.List.{length-append}
use Rattle.std.proofs.lemmas.List.Elements.{All-contains}
use Rattle.std.proofs.lemmas.List.Folds.{list_any-append}
use Rattle.std.proofs.lemmas.List.Sums.{sum_by-append, sum_by-cons}
use Rattle.std.proofs.lemmas.Map.Entries.{length-keys_of}
use Rattle.std.proofs.lemmas.Map.Keys.{IsDistinct-from_sorted}
use Rattle.std.proofs.lemmas.Map.Views.{Contains-from_any}
use Rattle.std.proofs.lemmas.Map.Made.{is_some-lookup, length-le_from_is_member, length-remove_key}
use Rattle.net_base.specs.declared.addr.Addr.{Addr}
use Rattle.net_base.specs.declared.prefix.Prefix.{Prefix}
use Rattle.net_base.specs.Order.{addr_cmp, prefix_cmp}
use Rattle.net_base.specs.PrefixSet.{is_in}
use Rattle.net_base.proofs.Order.{addr_cmp-total, addr_cmp-Equal, prefix_cmp-total, prefix_cmp-Equal}
use Rattle.conf_tree.specs.declared.conf.Conf.{Conf}
use Rattle.core_msgs.specs.declared.frame.Done.{Done}
use Rattle.core_msgs.specs.declared.frame.Frame.{Frame}
use Rattle.core_msgs.specs.declared.frame.Frame.TheVariants as frames
use Rattle.core_msgs.specs.declared.parts.Core.TheVariants.{Decision}
use Rattle.kroute.specs.declared.phase.Phase.{Phase}
use Rattle.kroute.specs.declared.phase.Phase.TheVariants.{New, Listing, Coupled, Clearing, Lost}
use Rattle.kroute.specs.declared.phase.Work.{Work}
use Rattle.kroute.specs.declared.phase.Work.TheVariants.{ListRows, PutRight, Delete}
use Rattle.kroute.specs.Calls.{IsAfter, IsNext, Outside, StandsAfter, after_put}
use Rattle.kroute.specs.Phases.{all_but, decoupled, differ, row_at, with_work}
use Rattle.kroute.specs.Rows.{CountsListed, IsInOrder, IsSetOf, Rows}
use Rattle.kroute.specs.Table.{IsListed, TableState, loses, wants, wants_no}
use Rattle.kroute.specs.Tables.{ChangesTable, SetsTable, TablesState, table_at}
use Rattle.kroute.specs.Units.{IsUnit}
use Rattle.nexthop_track.specs.declared.hops.HopChange.{HopChange}
use Rattle.nexthop_track.specs.Hops.{Hops, is_tracked_in}
use Rattle.nexthop_track.specs.Changes.{answer_changed, answers_changed}
use Rattle.reload_stage.specs.declared.item.StageItem.{StageItem}
use Rattle.parent_core.specs.declared.reloads.Stage.{Stage}
use Rattle.parent_core.specs.declared.reloads.Stage.TheVariants.{Idle, AtSession, AtDecision}
use Rattle.parent_core.specs.Calls.{Acks, Advances, ChangesKernelTable, PassesOver, Routes, Takes, TakesUp, Works}
use Rattle.parent_core.specs.Cost.{Bounds, Costs, CostsUnit, IsKnownWithin, IsWithin, Weights, couple_cost, frame_cost, load, phase_load, stage_load, table_load, tables_load, taking_cost, written_cost}
use Rattle.parent_core.specs.Frames.{answered, nothing, staged}
use Rattle.parent_core.specs.KernelTables.{Configures, is_among, is_switched, switched_to, tables_of, taken}
use Rattle.parent_core.specs.State.{ParentState}
use Rattle.parent_core.proofs.Sums.{length_filtered, length_inserted, sum_at, sum_more, sum_same}
use Rattle.parent_core.proofs.Taking.{same_number}

-- ---- how many prefixes and next hops there are

pub among : (all ps : List Prefix) → All (λ q. is_in all q ≡ true) ps → (q : Prefix) → is_in ps q ≡ true → is_in all q ≡ true
among all ps within q here = All-contains (λ p. is_in all p ≡ true) ps q within (Contains-from_any prefix_cmp-Equal q ps here)

prefixes_by : (ps qs : List Prefix) → IsInOrder ps → ((q : Prefix) → is_in ps q ≡ true → is_in qs q ≡ true) → length ps ≤ length qs
prefixes_by ps qs sorted each =
    length-le_from_is_member (eq_by_cmp_equiv prefix_cmp-total) ps qs (IsDistinct-from_sorted prefix_cmp ps sorted) each

prefixes_within : (ps qs : List Prefix) → IsInOrder ps → All (λ q. is_in qs q ≡ true) ps → length ps ≤ length qs
prefixes_within ps qs sorted within = prefixes_by ps qs sorted (among qs ps within)

hops_within : (hops all : List Addr) → IsStrictlySortedBy addr_cmp hops → All (λ a. is_tracked_in all a ≡ true) hops → length hops ≤ length all
hops_within hops all sorted within =
    length-le_from_is_member (eq_by_cmp_equiv addr_cmp-total) hops all (IsDistinct-from_sorted addr_cmp hops sorted)
    (λ a h. All-contains (λ b. is_tracked_in all b ≡ true) hops a within (Contains-from_any addr_cmp-Equal a hops h))

-- a prefix with a row is one of the keys
row_is_key : (rows : Rows) (q : Prefix) → is_some (row_at rows q) ≡ true → is_in (keys_of rows) q ≡ true
row_is_key rows q some = sym (is_some-lookup (is_at (prefix_cmp q)) rows) ∙ some

-- a prefix whose row is wanted is within the bounds
wanted_among : (b : Bounds) (wanted : Rows) → All (λ q. is_in b.prefixes q ≡ true) (keys_of wanted) → (q : Prefix) → is_some (row_at wanted q) ≡ true → is_in b.prefixes q ≡ true
wanted_among b wanted within q some = among b.prefixes (keys_of wanted) within q (row_is_key wanted q some)

in_either : (xs ys : List Prefix) (q : Prefix) → (is_in xs q || is_in ys q) ≡ true → is_in (xs ++ ys) q ≡ true
in_either xs ys q either = list_any-append (eq_by_cmp prefix_cmp q) xs ys ∙ either

-- the rows to be put right are rows that were listed, or rows that are wanted
put_right_few : (b : Bounds) (wanted rows : Rows) (job : List Prefix) → ((q : Prefix) → is_some (row_at wanted q) ≡ true → is_in b.prefixes q ≡ true)
    → IsSetOf job (λ q. differ (row_at rows q) (row_at wanted q)) → length job ≤ length rows + length b.prefixes
put_right_few b wanted rows job within set =
    let few : length job ≤ length (keys_of rows ++ b.prefixes) = prefixes_by job (keys_of rows ++ b.prefixes) set.in_order each in
    omega (arith, few, length-append (keys_of rows) b.prefixes, length-keys_of rows)
  where
    known : (q : Prefix) (found wants : Option Addr) → row_at rows q ≡ found → row_at wanted q ≡ wants → differ found wants ≡ true → (is_in (keys_of rows) q || is_in b.prefixes q) ≡ true
    known q (Some hop) wants is there other = ap (λ c. c || is_in b.prefixes q) (row_is_key rows q (ap is_some is))
    known q None None is there other = absurd (true≢false (sym other))
    known q None (Some hop) is there other = go (is_in (keys_of rows) q)
      where
        go : (c : Bool) → (c || is_in b.prefixes q) ≡ true
        go true = refl
        go false = within q (ap is_some there)

    each : (q : Prefix) → is_in job q ≡ true → is_in (keys_of rows ++ b.prefixes) q ≡ true
    each q h = in_either (keys_of rows) b.prefixes q (known q (row_at rows q) (row_at wanted q) refl refl (sym (set.has q) ∙ h))

-- the rows to be deleted are rows that were listed
cleared_few : (rows : Rows) (job : List Prefix) → IsSetOf job (λ q. is_some (row_at rows q)) → length job ≤ length rows
cleared_few rows job set =
    let few : length job ≤ length (keys_of rows) = prefixes_by job (keys_of rows) set.in_order (λ q h. row_is_key rows q (sym (set.has q) ∙ h)) in
    omega (arith, few, length-keys_of rows)

-- one prefix less
one_less : (job : List Prefix) (p : Prefix) → is_in job p ≡ true → length (all_but p job) + 1 ≡ length job
one_less job p among = length-remove_key (λ q. is_at (prefix_cmp p) q) job among

-- ---- one table

-- the table of that number is this one now, and no other changed
others : (n : ℕ) (t : Option TableState) (old new : TablesState) → SetsTable t n old new → (m : ℕ) → (n == m) ≡ false → table_at new m ≡ table_at old m
others n t old new sets m e = sets m ∙ ap (λ b. cond b t (table_at old m)) (same_number n m ∙ e)

here : (n : ℕ) (t : Option TableState) (old new : TablesState) → SetsTable t n old new → table_at new n ≡ t
here n t old new sets = sets n ∙ ap (λ b. cond b t (table_at old n)) ((eq_by_cmp_equiv nat_cmp_total).refl n)

one_load : (w : Weights) (b : Bounds) (n : ℕ) (was t : Option TableState) (old new : TablesState) → IsStrictlySortedBy nat_cmp b.numbers → is_among b.numbers n ≡ true
    → table_at old n ≡ was → SetsTable t n old new → tables_load w b new + table_load w b was ≡ tables_load w b old + table_load w b t
one_load w b n was t old new sorted among there sets =
    let sums : tables_load w b new + table_load w b (table_at old n) ≡ tables_load w b old + table_load w b (table_at new n) =
    sum_at (λ m. table_load w b (table_at old m)) (λ m. table_load w b (table_at new m)) n b.numbers sorted among (λ m e. ap (table_load w b) (others n t old new sets m e)) in
    let before : table_load w b (table_at old n) ≡ table_load w b was = ap (table_load w b) there in
    let behind : table_load w b (table_at new n) ≡ table_load w b t = ap (table_load w b) (here n t old new sets) in
    omega (arith, sums, before, behind)

-- a table that isn't configured doesn't change
unchanged : (f : TableState → TableState) (n : ℕ) (old new : TablesState) → ChangesTable f n old new → table_at old n ≡ None → (m : ℕ) → table_at new m ≡ table_at old m
unchanged f n old new changes none m =
    changes m ∙ ap (λ t. cond (is_at (nat_cmp n) m) (option_map f t) (table_at old m)) none ∙ ap (λ b. cond b None (table_at old m)) (same_number n m) ∙ go (n == m) refl
  where
    go : (b : Bool) → (n == m) ≡ b → cond b None (table_at old m) ≡ table_at old m
    go true e = sym (ap (table_at old) (sym (eqb-true n m e)) ∙ none)
    go false e = refl

-- a table that is changed, where it is configured, grows by no more than that
change_load : (w : Weights) (b : Bounds) (f : TableState → TableState) (c n : ℕ) (old new : TablesState) → IsStrictlySortedBy nat_cmp b.numbers → ChangesTable f n old new
    → ((t : TableState) → table_at old n ≡ Some t → (is_among b.numbers n ≡ true) × (phase_load w b (f t).phase ≤ phase_load w b t.phase + c))
    → tables_load w b new ≤ tables_load w b old + c
change_load w b f c n old new sorted changes each = go (table_at old n) refl
  where
    go : (t : Option TableState) → table_at old n ≡ t → tables_load w b new ≤ tables_load w b old + c
    go None e =
        let same : tables_load w b new ≡ tables_load w b old =
        sum_same (λ m. table_load w b (table_at old m)) (λ m. table_load w b (table_at new m)) b.numbers (λ m. ap (table_load w b) (unchanged f n old new changes e m)) in
        omega (arith, same)
    go (Some t) e =
        let grows = each t e in
        let is : tables_load w b new + phase_load w b t.phase ≡ tables_load w b old + table_load w b (option_map f (table_at old n)) =
        one_load w b n (Some t) (option_map f (table_at old n)) old new sorted grows.0 e changes in
        let now : table_load w b (option_map f (table_at old n)) ≡ phase_load w b (f t).phase = ap (λ (u : Option TableState). table_load w b (option_map f u)) e in
        omega (arith, is, now, grows.1)

-- a row that is wanted, or no more
worked : (w : Weights) (b : Bounds) (p : Prefix) (phase : Phase) → phase_load w b (with_work p phase) ≤ phase_load w b phase + 1
worked w b p New = omega arith
worked w b p (Listing coupled) = omega arith
worked w b p (Coupled known job) = length_inserted prefix_cmp job p
worked w b p (Clearing job) = omega arith
worked w b p Lost = omega arith

-- a table that is decoupled
let_go : (w : Weights) (b : Bounds) (phase : Phase) → IsKnownWithin b phase → phase_load w b (decoupled phase) ≤ phase_load w b phase + couple_cost w b
let_go w b New within = omega arith
let_go w b (Listing coupled) within = omega arith
let_go w b (Coupled known job) within =
    let few : length known ≤ length b.prefixes = prefixes_within known b.prefixes within.0 within.1 in
    omega (arith, few)
let_go w b (Clearing job) within = omega arith
let_go w b Lost within = omega arith

switched : (w : Weights) (b : Bounds) (on : Bool) (t : TableState) → IsKnownWithin b t.phase → phase_load w b (switched_to on t).phase ≤ phase_load w b t.phase + couple_cost w b
switched w b true t within = omega arith
switched w b false t within = let_go w b t.phase within

-- ---- tables that are taken up

taken_up : (w : Weights) (b : Bounds) (turned on : Bool) (t : Option TableState) → ((u : TableState) → t ≡ Some u → IsKnownWithin b u.phase)
    → phase_load w b (taken turned on t).phase ≤ table_load w b t + couple_cost w b
taken_up w b true true None within = omega arith
taken_up w b true false None within = omega arith
taken_up w b false true None within = omega arith
taken_up w b false false None within = omega arith
taken_up w b true on (Some t) within = switched w b on t (within t refl)
taken_up w b false on (Some t) within = omega arith

configured : (w : Weights) (b : Bounds) (was is : Conf) (old new : TablesState) → Configures was is old new → ((n : ℕ) (t : TableState) → table_at old n ≡ Some t → IsKnownWithin b t.phase)
    → tables_load w b new ≤ tables_load w b old + length b.numbers * couple_cost w b
configured w b was is old new configures within =
    sum_more (λ n. table_load w b (table_at old n)) (λ n. table_load w b (table_at new n)) (couple_cost w b) b.numbers (λ n. more n (is_among (tables_of is) n) (configures n))
  where
    more : (n : ℕ) (c : Bool) → table_at new n ≡ (if c then Some (taken (is_switched was.fib_update is.fib_update) is.fib_update (table_at old n)) else None)
        → table_load w b (table_at new n) ≤ table_load w b (table_at old n) + couple_cost w b
    more n true e =
        let now : table_load w b (table_at new n) ≡ phase_load w b (taken (is_switched was.fib_update is.fib_update) is.fib_update (table_at old n)).phase = ap (table_load w b) e in
        omega (arith, now, taken_up w b (is_switched was.fib_update is.fib_update) is.fib_update (table_at old n) (within n))
    more n false e =
        let now : table_load w b (table_at new n) ≡ 0 = ap (table_load w b) e in
        omega (arith, now)

-- ---- frames that are written

answers_cost : (w : Weights) (changes : List HopChange) → written_cost w (map answered changes) ≡ length changes * w.nexthop
answers_cost w [] = omega arith
answers_cost w (change ∷ changes) =
    let rest : written_cost w (map answered changes) ≡ length changes * w.nexthop = answers_cost w changes in
    let sum : written_cost w (map answered (change ∷ changes)) ≡ w.nexthop + written_cost w (map answered changes) = sum_by-cons (frame_cost w) (answered change) (map answered changes) in
    omega (arith, sum, rest)

-- an answer on no more than each next hop
answers_few : (w : Weights) (b : Bounds) (old new : Hops) → new.tracked ≡ old.tracked → IsStrictlySortedBy addr_cmp old.tracked
    → All (λ a. is_tracked_in b.hops a ≡ true) old.tracked → written_cost w (map answered (answers_changed old new)) ≤ length b.hops * w.nexthop
unfolding answers_changed
answers_few w b old new same sorted within =
    let few : length (answers_changed old new) ≤ length new.tracked = length_filtered (answer_changed old new) new.tracked in
    let all : length old.tracked ≤ length b.hops = hops_within old.tracked b.hops sorted within in
    let most : length (answers_changed old new) * w.nexthop ≤ length b.hops * w.nexthop = mul-le-mul_right w.nexthop (omega (arith, few, all, ap (λ (hops : List Addr). length hops) same)) in
    omega (arith, most, answers_cost w (answers_changed old new))

-- ---- frames that are taken

passes_cost : (w : Weights) (b : Bounds) (old new : ParentState) (done : Done) → PassesOver old new done → Costs w b 1 1 old new done
passes_cost w b old new done (same, none) =
    let written : written_cost w done.frames ≡ 0 = ap (λ (d : Done). written_cost w d.frames) none in
    let stays : load w b new ≡ load w b old = ap (load w b) same in
    omega (arith, written, stays)

changes_cost : (w : Weights) (b : Bounds) (f : TableState → TableState) (c n : ℕ) (old new : ParentState) (done : Done) → IsWithin b old → ChangesKernelTable f n old new → done ≡ nothing
    → ((t : TableState) → IsKnownWithin b t.phase → phase_load w b (f t).phase ≤ phase_load w b t.phase + c) → Costs w b 1 (1 + c) old new done
changes_cost w b f c n old new done within changes none grows =
    let written : written_cost w done.frames ≡ 0 = ap (λ (d : Done). written_cost w d.frames) none in
    let stage : stage_load w b new.reloads.stage ≡ stage_load w b old.reloads.stage = ap (λ (s : ParentState). stage_load w b s.reloads.stage) changes.rest in
    let tables : tables_load w b new.tables ≤ tables_load w b old.tables + c =
    change_load w b f c n old.tables new.tables within.numbers changes.table (λ t there. ((within.tables n t there).number, grows t (within.tables n t there).known)) in
    omega (arith, written, stage, tables)

takes_up_cost : (w : Weights) (b : Bounds) (conf : Conf) (items : List StageItem) (old new : ParentState) (done : Done) → IsWithin b old → old.reloads.stage ≡ AtSession conf items
    → TakesUp conf items old new done → Costs w b 1 1 old new done
takes_up_cost w b conf items old new done within stage up =
    let hops : new.hops.tracked ≡ old.hops.tracked = ap (λ (s : ParentState). s.hops.tracked) up.rest in
    let answers : written_cost w (map answered (answers_changed old.hops new.hops)) ≤ length b.hops * w.nexthop = answers_few w b old.hops new.hops hops within.tracked within.hops in
    let written : written_cost w done.frames ≡ written_cost w (map answered (answers_changed old.hops new.hops) ++ staged Decision items) = ap (λ (d : Done). written_cost w d.frames) up.given in
    let parts : written_cost w (map answered (answers_changed old.hops new.hops) ++ staged Decision items) ≡ written_cost w (map answered (answers_changed old.hops new.hops)) + written_cost w (staged Decision items) =
    sum_by-append (frame_cost w) (map answered (answers_changed old.hops new.hops)) (staged Decision items) in
    let was : stage_load w b old.reloads.stage ≡ written_cost w (staged Decision items) + length b.hops * w.nexthop + length b.numbers * couple_cost w b = ap (stage_load w b) stage in
    let is : stage_load w b new.reloads.stage ≡ 0 = ap (λ (s : ParentState). stage_load w b s.reloads.stage) up.rest in
    let tables : tables_load w b new.tables ≤ tables_load w b old.tables + length b.numbers * couple_cost w b =
    configured w b old.conf conf old.tables new.tables up.tables (λ n t there. (within.tables n t there).known) in
    omega (arith, answers, written, parts, was, is, tables)

advances_cost : (w : Weights) (b : Bounds) (stage : Stage) (old new : ParentState) (done : Done) → IsWithin b old → old.reloads.stage ≡ stage → Advances stage old new done → Costs w b 1 1 old new done
advances_cost w b Idle old new done within stage passes = passes_cost w b old new done passes
advances_cost w b (AtSession conf items) old new done within stage up = takes_up_cost w b conf items old new done within stage up
advances_cost w b AtDecision old new done within stage (state, report) =
    let written : written_cost w done.frames ≡ 0 = ap (λ (d : Done). written_cost w d.frames) report in
    let is : load w b new ≡ 0 + tables_load w b old.tables = ap (load w b) state in
    omega (arith, written, is)

acks_cost : (w : Weights) (b : Bounds) (generation : ℕ) (old new : ParentState) (done : Done) → IsWithin b old → Acks generation old new done → Costs w b 1 1 old new done
acks_cost w b generation old new done within acks = go (generation == old.reloads.generation) refl
  where
    go : (c : Bool) → (generation == old.reloads.generation) ≡ c → Costs w b 1 1 old new done
    go true e = advances_cost w b old.reloads.stage old new done within refl (acks.last (eqb-true generation old.reloads.generation e))
    go false e = passes_cost w b old new done (acks.other (eqb-false generation old.reloads.generation e))

pub frame_costs : (frame : Frame) (old new : ParentState) (done : Done) → Takes frame old new done → (w : Weights) (b : Bounds) → IsWithin b old → Costs w b 1 (taking_cost w b frame) old new done
frame_costs (frames.Ack generation) old new done acks w b within = acks_cost w b generation old new done within acks
frame_costs (frames.Track a) old new done (state, answer) w b within =
    let written : written_cost w done.frames ≡ 0 + w.nexthop = ap (λ (d : Done). written_cost w d.frames) answer in
    let stays : load w b new ≡ load w b old = ap (load w b) state in
    omega (arith, written, stays)
frame_costs (frames.Untrack a) old new done (state, none) w b within =
    let written : written_cost w done.frames ≡ 0 = ap (λ (d : Done). written_cost w d.frames) none in
    let stays : load w b new ≡ load w b old = ap (load w b) state in
    omega (arith, written, stays)
frame_costs (frames.FibSet n p hop) old new done (changes, none) w b within = changes_cost w b (wants p hop) 1 n old new done within changes none (λ t known. worked w b p t.phase)
frame_costs (frames.FibDel n p) old new done (changes, none) w b within = changes_cost w b (wants_no p) 1 n old new done within changes none (λ t known. worked w b p t.phase)
frame_costs (frames.Couple n on) old new done (changes, none) w b within = changes_cost w b (switched_to on) (couple_cost w b) n old new done within changes none (λ t known. switched w b on t known)
frame_costs (frames.Begin generation size) old new done passes w b within = passes_cost w b old new done passes
frame_costs (frames.Piece piece) old new done passes w b within = passes_cost w b old new done passes
frame_costs (frames.Commit generation) old new done passes w b within = passes_cost w b old new done passes
frame_costs (frames.Up session peer asn id agreed) old new done passes w b within = passes_cost w b old new done passes
frame_costs (frames.Down session) old new done passes w b within = passes_cost w b old new done passes
frame_costs (frames.Routes session family withdrawn announced) old new done passes w b within = passes_cost w b old new done passes
frame_costs (frames.Credit session messages) old new done passes w b within = passes_cost w b old new done passes
frame_costs (frames.Refresh session family) old new done passes w b within = passes_cost w b old new done passes
frame_costs (frames.Close session code sub held most) old new done passes w b within = passes_cost w b old new done passes
frame_costs (frames.Nexthop hop valid) old new done passes w b within = passes_cost w b old new done passes
frame_costs (frames.CtlWords words) old new done passes w b within = passes_cost w b old new done passes
frame_costs (frames.CtlText text) old new done passes w b within = passes_cost w b old new done passes
frame_costs (frames.CtlEnd status) old new done passes w b within = passes_cost w b old new done passes

-- ---- events

pub route_costs : (p : Prefix) (up : Bool) (old new : ParentState) (done : Done) → Routes p up old new done → (w : Weights) (b : Bounds) → IsWithin b old
    → Costs w b 0 (length b.hops * w.nexthop) old new done
route_costs p up old new done routes w b within =
    let hops : new.hops.tracked ≡ old.hops.tracked = ap (λ (s : ParentState). s.hops.tracked) routes.state in
    let answers : written_cost w (map answered (answers_changed old.hops new.hops)) ≤ length b.hops * w.nexthop = answers_few w b old.hops new.hops hops within.tracked within.hops in
    let written : written_cost w done.frames ≡ written_cost w (map answered (answers_changed old.hops new.hops)) = ap (λ (d : Done). written_cost w d.frames) routes.given in
    let stays : load w b new ≡ load w b old = ap (load w b) routes.state in
    omega (arith, answers, written, stays)

-- ---- a unit of work

no_work : (work : Work) → Some work ≡ None → ⊥
no_work work e = cc

-- a table with a next call has something to do
not_done : (w : Weights) (b : Bounds) (phase : Phase) (work : Work) → IsNext phase (Some work) → 1 ≤ phase_load w b phase
not_done w b New work next = absurd (no_work work next)
not_done w b (Listing coupled) work next = omega arith
not_done w b (Coupled known job) (PutRight p) next = omega (arith, one_less job p next.passes)
not_done w b (Coupled known job) (ListRows coupled) next = absurd next
not_done w b (Coupled known job) (Delete p) next = absurd next
not_done w b (Clearing job) (Delete p) next = omega (arith, one_less job p next.passes)
not_done w b (Clearing job) (ListRows coupled) next = absurd next
not_done w b (Clearing job) (PutRight p) next = absurd next
not_done w b Lost work next = absurd (no_work work next)

-- what a call on a table costs: its turn, or that of a list
abbrev CostsCall : Weights → ℕ → ℕ → ℕ → ℕ → Type 0
CostsCall w listed new_listed old new =
    ((new_listed ≡ listed) × (new + 1 ≤ old)) ⊎ ((rows : Rows) × CountsListed {X = Prefix × Addr} {E = Unit {0}} listed new_listed (Ok rows) × (new + w.listing + 1 ≤ old + length rows))

list_cost : (w : Weights) (b : Bounds) (wanted rows : Rows) (coupled : Bool) (phase : Phase) → ((q : Prefix) → is_some (row_at wanted q) ≡ true → is_in b.prefixes q ≡ true) → IsListed coupled wanted rows phase
    → phase_load w b phase + w.listing + 1 ≤ couple_cost w b + length rows
list_cost w b wanted rows true (Coupled known job) within leave = omega (arith, put_right_few b wanted rows job within leave.1)
list_cost w b wanted rows false (Clearing job) within leave = omega (arith, cleared_few rows job leave)
list_cost w b wanted rows true New within leave = absurd leave
list_cost w b wanted rows true (Listing again) within leave = absurd leave
list_cost w b wanted rows true (Clearing job) within leave = absurd leave
list_cost w b wanted rows true Lost within leave = absurd leave
list_cost w b wanted rows false New within leave = absurd leave
list_cost w b wanted rows false (Listing again) within leave = absurd leave
list_cost w b wanted rows false (Coupled known job) within leave = absurd leave
list_cost w b wanted rows false Lost within leave = absurd leave

put_cost : (w : Weights) (b : Bounds) (hop : Option Addr) (p : Prefix) (known job : List Prefix) → is_in job p ≡ true
    → phase_load w b (after_put hop p (Coupled known job)) + 1 ≤ length job
put_cost w b (Some hop) p known job among = omega (arith, one_less job p among)
put_cost w b None p known job among = omega (arith, one_less job p among)

call_cost : (w : Weights) (b : Bounds) (work : Work) (wanted : Rows) (told : Option Rows) (old new : Phase) (listed new_listed : ℕ) → ((q : Prefix) → is_some (row_at wanted q) ≡ true → is_in b.prefixes q ≡ true)
    → IsNext old (Some work) → IsAfter work wanted told old new listed new_listed → CostsCall w listed new_listed (phase_load w b old) (phase_load w b new)
call_cost w b (ListRows coupled) wanted told (Listing before) new listed new_listed within next after =
    inr (after.rows, after.counted, list_cost w b wanted after.rows coupled new within after.leave)
call_cost w b (PutRight p) wanted told (Coupled known job) new listed new_listed within next (is, same) =
    let now : phase_load w b new ≡ phase_load w b (after_put (row_at wanted p) p (Coupled known job)) = ap (phase_load w b) is in
    inl (same, omega (arith, now, put_cost w b (row_at wanted p) p known job next.passes))
call_cost w b (Delete p) wanted told (Clearing job) new listed new_listed within next (is, same) =
    let now : phase_load w b new ≡ length (all_but p job) = ap (phase_load w b) is in
    inl (same, omega (arith, now, one_less job p next.passes))
call_cost w b (ListRows coupled) wanted told New new listed new_listed within next after = absurd (no_work (ListRows coupled) next)
call_cost w b (ListRows coupled) wanted told (Coupled known job) new listed new_listed within next after = absurd next
call_cost w b (ListRows coupled) wanted told (Clearing job) new listed new_listed within next after = absurd next
call_cost w b (ListRows coupled) wanted told Lost new listed new_listed within next after = absurd (no_work (ListRows coupled) next)
call_cost w b (PutRight p) wanted told New new listed new_listed within next after = absurd (no_work (PutRight p) next)
call_cost w b (PutRight p) wanted told (Listing coupled) new listed new_listed within next after = absurd (no next)
  where
    no : Some (PutRight p) ≡ Some (ListRows coupled) → ⊥
    no e = cc
call_cost w b (PutRight p) wanted told (Clearing job) new listed new_listed within next after = absurd next
call_cost w b (PutRight p) wanted told Lost new listed new_listed within next after = absurd (no_work (PutRight p) next)
call_cost w b (Delete p) wanted told New new listed new_listed within next after = absurd (no_work (Delete p) next)
call_cost w b (Delete p) wanted told (Listing coupled) new listed new_listed within next after = absurd (no next)
  where
    no : Some (Delete p) ≡ Some (ListRows coupled) → ⊥
    no e = cc
call_cost w b (Delete p) wanted told (Coupled known job) new listed new_listed within next after = absurd next
call_cost w b (Delete p) wanted told Lost new listed new_listed within next after = absurd (no_work (Delete p) next)

-- a call that failed, or was made
outcome_cost : (w : Weights) (b : Bounds) (failed : Bool) (work : Work) (wanted : Rows) (told : Option Rows) (old new : Phase) (listed new_listed : ℕ) → ((q : Prefix) → is_some (row_at wanted q) ≡ true → is_in b.prefixes q ≡ true)
    → IsNext old (Some work) → StandsAfter failed work wanted told old new listed new_listed → CostsCall w listed new_listed (phase_load w b old) (phase_load w b new)
outcome_cost w b true work wanted told old new listed new_listed within next (is, same) =
    let now : phase_load w b new ≡ 0 = ap (phase_load w b) is in
    inl (same, omega (arith, now, not_done w b old work next))
outcome_cost w b false work wanted told old new listed new_listed within next after = call_cost w b work wanted told old new listed new_listed within next after

-- the cost of a call on one table is that of the unit
unit_of_call : (w : Weights) (b : Bounds) (listed new_listed : ℕ) (was is : ℕ) (old new : ParentState) → load w b new + was ≡ load w b old + is → CostsCall w listed new_listed was is → CostsUnit w b listed new_listed old new
unit_of_call w b listed new_listed was is old new moved (inl (same, less)) = inr (inl (same, omega (arith, moved, less)))
unit_of_call w b listed new_listed was is old new moved (inr (rows, counted, less)) = inr (inr (rows, counted, omega (arith, moved, less)))

one_moves : (w : Weights) (b : Bounds) (n : ℕ) (was is : TableState) (old new : ParentState) → IsWithin b old → new ≡ record old { tables = new.tables } → table_at old.tables n ≡ Some was → SetsTable (Some is) n old.tables new.tables
    → load w b new + phase_load w b was.phase ≡ load w b old + phase_load w b is.phase
one_moves w b n was is old new within rest there sets =
    let stage : stage_load w b new.reloads.stage ≡ stage_load w b old.reloads.stage = ap (λ (s : ParentState). stage_load w b s.reloads.stage) rest in
    let tables : tables_load w b new.tables + phase_load w b was.phase ≡ tables_load w b old.tables + phase_load w b is.phase =
    one_load w b n (Some was) (Some is) old.tables new.tables within.numbers (within.tables n was there).number there sets in
    omega (arith, stage, tables)

pub unit_costs : (old new : ParentState) (done : Done) (before behind : Outside) → Works old new done before behind → (w : Weights) (b : Bounds) → IsWithin b old
    → CostsUnit w b before.listed behind.listed old new
unit_costs old new done before behind works w b within = go works.unit
  where
    go : IsUnit works.lost old.tables new.tables before behind → CostsUnit w b before.listed behind.listed old new
    go (inl idles) = inl (works.rest ∙ ap (λ (tables : TablesState). record old { tables = tables }) idles.same, idles.none)
    go (inr (inl due)) =
        let (t, there, next) = due.first.0 in
        let sets : SetsTable (Some (loses t)) due.number old.tables new.tables = λ m. due.tables m ∙ ap (λ (u : Option TableState). cond (is_at (nat_cmp due.number) m) (option_map loses u) (table_at old.tables m)) there in
        let same : behind.listed ≡ before.listed = ap (λ (o : Outside). o.listed) due.untouched in
        unit_of_call w b before.listed behind.listed (phase_load w b t.phase) 0 old new (one_moves w b due.number t (loses t) old new within works.rest there sets)
        (inl (same, not_done w b t.phase due.work next))
    go (inr (inr calls)) =
        let call = calls.call in
        let outcome = call.outcome in
        unit_of_call w b before.listed behind.listed (phase_load w b call.was.phase) (phase_load w b call.is.phase) old new
        (one_moves w b calls.number call.was call.is old new within works.rest call.there call.tables)
        (outcome_cost w b calls.failed calls.work call.was.wanted (before.held calls.number) call.was.phase call.is.phase before.listed behind.listed (wanted_among b call.was.wanted (within.tables calls.number call.was call.there).wanted) call.next outcome.phase)
