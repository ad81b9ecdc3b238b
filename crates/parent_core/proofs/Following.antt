-- What the parent has after a call is what is kept after the step.
use Rattle.std.proofs.Common.{◌≡◌, ℕ, Bool, true, false, ◌==◌, cond, unwrap_or, List, [], ◌∷◌, ◌++◌, map, Option, Some, None, if◌then◌else◌, refl, sym, ap, subst, ◌∙◌, eqb-true, eq-eqb, true≢false, inl, inr}
use Rattle.std.specs.BTreeMap.{insert_entry, is_at}
use Rattle.std.specs.BTreeSet.{insert_key}
use Rattle.std.specs.Map.{remove_entry}
use Rattle.std.specs.Option.{option_map}
use Rattle.std.specs.Set.{remove_key}
use Rattle.net_base.specs.Order.{addr_cmp, prefix_cmp}
use Rattle.conf_tree.specs.declared.conf.Conf.{Conf}
use Rattle.core_msgs.specs.declared.answer.Line.TheVariants.{Reloaded}
use Rattle.core_msgs.specs.declared.frame.Done.{Done}
use Rattle.core_msgs.specs.declared.frame.Frame.{Frame}
use Rattle.core_msgs.specs.declared.frame.Frame.TheVariants as frames
use Rattle.core_msgs.specs.declared.parts.Core.TheVariants.{Decision}
use Rattle.kroute.specs.Calls.{Outside}
use Rattle.kroute.specs.Rows.{Rows}
use Rattle.kroute.specs.Table.{TableState, loses, wants, wants_no}
use Rattle.kroute.specs.Tables.{TablesState, ChangesTable, SetsTable, table_at}
use Rattle.kroute.specs.Units.{IsUnit}
use Rattle.nexthop_track.specs.Hops.{Hops}
use Rattle.nexthop_track.specs.Changes.{answer_of, answers_changed}
use Rattle.reload_stage.specs.declared.item.StageItem.{StageItem}
use Rattle.parent_core.specs.declared.reloads.Reloads.{Reloads}
use Rattle.parent_core.specs.declared.reloads.Stage.{Stage}
use Rattle.parent_core.specs.declared.reloads.Stage.TheVariants.{Idle, AtSession, AtDecision}
use Rattle.parent_core.specs.Calls.{Acks, Advances, ChangesKernelTable, PassesOver, Takes, TakesUp, Works}
use Rattle.parent_core.specs.Frames.{answered, nothing, only_frames, only_line, staged}
use Rattle.parent_core.specs.History.{Follows, Kept, kept, Has, Took, Worked, after, after_frame, given, given_by, given_at, advanced, rows_of, rows_changed}
use Rattle.parent_core.specs.KernelTables.{is_among, is_switched, switched_to, tables_of, taken}
use Rattle.parent_core.specs.Reloads.{idle}
use Rattle.parent_core.specs.State.{ParentState}
use Rattle.parent_core.proofs.Taking.{same_number}

-- the rows of a table that is changed
changed_rows : (f : TableState → TableState) (g : Rows → Rows) → ((t : TableState) → (f t).wanted ≡ g t.wanted) → (n : ℕ) (old new : ParentState) → ChangesTable f n old.tables new.tables
    → (wanted : ℕ → Option Rows) → ((m : ℕ) → rows_of old m ≡ wanted m) → (m : ℕ) → rows_of new m ≡ rows_changed g n wanted m
changed_rows f g same n old new changes wanted was m =
    ap (option_map (λ t. t.wanted)) (changes m ∙ ap (λ b. cond b (option_map f (table_at old.tables n)) (table_at old.tables m)) (same_number n m)) ∙ go (n == m) refl
  where
    mapped : (t : Option TableState) → option_map (λ t. t.wanted) (option_map f t) ≡ option_map g (option_map (λ t. t.wanted) t)
    mapped None = refl
    mapped (Some t) = ap Some (same t)

    go : (b : Bool) → (n == m) ≡ b → option_map (λ t. t.wanted) (cond b (option_map f (table_at old.tables n)) (table_at old.tables m)) ≡ (if b then option_map g (wanted m) else wanted m)
    go true e = mapped (table_at old.tables n) ∙ ap (λ k. option_map g (rows_of old k)) (eqb-true n m e) ∙ ap (option_map g) (was m)
    go false e = was m

changes_has : (f : TableState → TableState) (g : Rows → Rows) → ((t : TableState) → (f t).wanted ≡ g t.wanted) → (n : ℕ) (old new : ParentState) → ChangesKernelTable f n old new
    → (k : Kept) → Has old k → Has new (record k { wanted = rows_changed g n k.wanted })
changes_has f g same n old new changes k has = record {
  reloads = ap (λ (s : ParentState). s.reloads) changes.rest ∙ has.reloads;
  conf = ap (λ (s : ParentState). s.conf) changes.rest ∙ has.conf;
  hops = ap (λ (s : ParentState). s.hops) changes.rest ∙ has.hops;
  wanted = changed_rows f g same n old new changes.table k.wanted has.wanted;
}

passes_has : (old new : ParentState) (done : Done) → PassesOver old new done → (k : Kept) → Has old k → (done ≡ nothing) × Has new k
passes_has old new done (same, none) k has = (none, subst (λ s. Has s k) (sym same) has)

-- a table that is switched keeps its rows
switched_rows : (on : Bool) (t : TableState) → (switched_to on t).wanted ≡ t.wanted
switched_rows true t = refl
switched_rows false t = refl

taken_rows : (switched on : Bool) (t : Option TableState) → (taken switched on t).wanted ≡ unwrap_or (option_map (λ t. t.wanted) t) []
taken_rows switched true None = refl
taken_rows switched false None = refl
taken_rows true on (Some t) = switched_rows on t
taken_rows false on (Some t) = refl

takes_up_has : (conf : Conf) (items : List StageItem) (old new : ParentState) (done : Done) → TakesUp conf items old new done
    → (k : Kept) → Has old k → (done ≡ given_at (AtSession conf items) k) × Has new (advanced (AtSession conf items) k)
takes_up_has conf items old new done up k has = (
  up.given ∙ ap (λ (hops : Hops). only_frames (map answered (answers_changed old.hops hops) ++ staged Decision items)) (ap (λ (s : ParentState). s.hops) up.rest)
      ∙ ap (λ (hops : Hops). only_frames (map answered (answers_changed hops (record hops { qualify_default = conf.qualify_default })) ++ staged Decision items)) has.hops,
  record {
    reloads = ap (λ (s : ParentState). s.reloads) up.rest ∙ ap (λ (r : Reloads). record { generation = r.generation; stage = AtDecision }) has.reloads;
    conf = ap (λ (s : ParentState). s.conf) up.rest;
    hops = ap (λ (s : ParentState). s.hops) up.rest ∙ ap (λ (hops : Hops). record hops { qualify_default = conf.qualify_default }) has.hops;
    wanted = λ n. ap (option_map (λ t. t.wanted)) (up.tables n) ∙ rows n (is_among (tables_of conf) n);
  },
)
  where
    rows : (n : ℕ) (b : Bool) → option_map (λ t. t.wanted) (if b then Some (taken (is_switched old.conf.fib_update conf.fib_update) conf.fib_update (table_at old.tables n)) else None)
        ≡ (if b then Some (unwrap_or (k.wanted n) []) else None)
    rows n true = ap Some (taken_rows (is_switched old.conf.fib_update conf.fib_update) conf.fib_update (table_at old.tables n) ∙ ap (λ (w : Option Rows). unwrap_or w []) (has.wanted n))
    rows n false = refl

advances_has : (stage : Stage) (old new : ParentState) (done : Done) → Advances stage old new done
    → (k : Kept) → Has old k → (done ≡ given_at stage k) × Has new (advanced stage k)
advances_has Idle old new done passes k has = passes_has old new done passes k has
advances_has (AtSession conf items) old new done up k has = takes_up_has conf items old new done up k has
advances_has AtDecision old new done (state, report) k has = (
  report ∙ ap (λ (r : Reloads). only_line (Reloaded r.generation)) has.reloads,
  record {
    reloads = ap (λ (s : ParentState). s.reloads) state ∙ ap (λ (r : Reloads). idle r.generation) has.reloads;
    conf = ap (λ (s : ParentState). s.conf) state ∙ has.conf;
    hops = ap (λ (s : ParentState). s.hops) state ∙ has.hops;
    wanted = λ n. ap (λ (s : ParentState). rows_of s n) state ∙ has.wanted n;
  },
)

couples_has : (n : ℕ) (on : Bool) (old new : ParentState) → ChangesKernelTable (switched_to on) n old new → (k : Kept) → Has old k → Has new k
couples_has n on old new changes k has = record {
  reloads = ap (λ (s : ParentState). s.reloads) changes.rest ∙ has.reloads;
  conf = ap (λ (s : ParentState). s.conf) changes.rest ∙ has.conf;
  hops = ap (λ (s : ParentState). s.hops) changes.rest ∙ has.hops;
  wanted = λ m. changed_rows (switched_to on) (λ rows. rows) (switched_rows on) n old new changes.table k.wanted has.wanted m ∙ unchanged (n == m) (k.wanted m);
}
  where
    kept_rows : (rows : Option Rows) → option_map (λ (r : Rows). r) rows ≡ rows
    kept_rows None = refl
    kept_rows (Some r) = refl

    unchanged : (b : Bool) (rows : Option Rows) → (if b then option_map (λ (r : Rows). r) rows else rows) ≡ rows
    unchanged true rows = kept_rows rows
    unchanged false rows = refl

acks_has : (generation : ℕ) (old new : ParentState) (done : Done) → Acks generation old new done
    → (k : Kept) → Has old k → (done ≡ given_by (frames.Ack generation) k) × Has new (after_frame (frames.Ack generation) k)
acks_has generation old new done acks k has = go (generation == k.reloads.generation) refl
  where
    here : old.reloads.generation ≡ k.reloads.generation
    here = ap (λ (r : Reloads). r.generation) has.reloads

    go : (b : Bool) → (generation == k.reloads.generation) ≡ b
        → (done ≡ (if b then given_at k.reloads.stage k else nothing)) × Has new (if b then advanced k.reloads.stage k else k)
    go true e = advances_has k.reloads.stage old new done (subst (λ (r : Reloads). Advances r.stage old new done) has.reloads (acks.last (eqb-true generation k.reloads.generation e ∙ sym here))) k has
    go false e = passes_has old new done (acks.other (λ same. true≢false (sym (eq-eqb generation k.reloads.generation (same ∙ here)) ∙ e))) k has

pub takes_has : (frame : Frame) (old new : ParentState) (done : Done) → Takes frame old new done
    → (k : Kept) → Has old k → (done ≡ given_by frame k) × Has new (after_frame frame k)
takes_has (frames.Ack generation) old new done acks k has = acks_has generation old new done acks k has
takes_has (frames.Track a) old new done (state, answer) k has = (
  answer ∙ ap (λ (hops : Hops). only_frames (answered (answer_of hops a) ∷ [])) has.hops,
  record {
    reloads = ap (λ (s : ParentState). s.reloads) state ∙ has.reloads;
    conf = ap (λ (s : ParentState). s.conf) state ∙ has.conf;
    hops = ap (λ (s : ParentState). s.hops) state ∙ ap (λ (hops : Hops). record hops { tracked = insert_key addr_cmp hops.tracked a }) has.hops;
    wanted = λ n. ap (λ (s : ParentState). rows_of s n) state ∙ has.wanted n;
  },
)
takes_has (frames.Untrack a) old new done (state, none) k has = (
  none,
  record {
    reloads = ap (λ (s : ParentState). s.reloads) state ∙ has.reloads;
    conf = ap (λ (s : ParentState). s.conf) state ∙ has.conf;
    hops = ap (λ (s : ParentState). s.hops) state ∙ ap (λ (hops : Hops). record hops { tracked = remove_key (is_at (addr_cmp a)) hops.tracked }) has.hops;
    wanted = λ n. ap (λ (s : ParentState). rows_of s n) state ∙ has.wanted n;
  },
)
takes_has (frames.FibSet n p hop) old new done (changes, none) k has =
    (none, changes_has (wants p hop) (λ rows. insert_entry prefix_cmp rows p hop) (λ t. refl) n old new changes k has)
takes_has (frames.FibDel n p) old new done (changes, none) k has =
    (none, changes_has (wants_no p) (λ rows. remove_entry (is_at (prefix_cmp p)) rows) (λ t. refl) n old new changes k has)
takes_has (frames.Couple n on) old new done (changes, none) k has = (none, couples_has n on old new changes k has)
takes_has (frames.Begin generation size) old new done passes k has = passes_has old new done passes k has
takes_has (frames.Piece piece) old new done passes k has = passes_has old new done passes k has
takes_has (frames.Commit generation) old new done passes k has = passes_has old new done passes k has
takes_has (frames.Up session peer asn id agreed) old new done passes k has = passes_has old new done passes k has
takes_has (frames.Down session) old new done passes k has = passes_has old new done passes k has
takes_has (frames.Routes session family withdrawn announced) old new done passes k has = passes_has old new done passes k has
takes_has (frames.Credit session messages) old new done passes k has = passes_has old new done passes k has
takes_has (frames.Refresh session family) old new done passes k has = passes_has old new done passes k has
takes_has (frames.Close session code sub held most) old new done passes k has = passes_has old new done passes k has
takes_has (frames.Nexthop hop valid) old new done passes k has = passes_has old new done passes k has
takes_has (frames.CtlWords words) old new done passes k has = passes_has old new done passes k has
takes_has (frames.CtlText text) old new done passes k has = passes_has old new done passes k has
takes_has (frames.CtlEnd status) old new done passes k has = passes_has old new done passes k has

-- a table is this one now, with the rows that it had
same_rows : (n : ℕ) (was is : TableState) (old new : TablesState) → table_at old n ≡ Some was → is.wanted ≡ was.wanted → SetsTable (Some is) n old new
    → (m : ℕ) → option_map (λ (t : TableState). t.wanted) (table_at new m) ≡ option_map (λ (t : TableState). t.wanted) (table_at old m)
same_rows n was is old new there same sets m =
    ap (option_map (λ t. t.wanted)) (sets m ∙ ap (λ b. cond b (Some is) (table_at old m)) (same_number n m)) ∙ go (n == m) refl
  where
    go : (b : Bool) → (n == m) ≡ b → option_map (λ (t : TableState). t.wanted) (cond b (Some is) (table_at old m)) ≡ option_map (λ (t : TableState). t.wanted) (table_at old m)
    go true e = ap Some same ∙ sym (ap (option_map (λ t. t.wanted)) (ap (table_at old) (sym (eqb-true n m e)) ∙ there))
    go false e = refl

-- a table that is lost keeps its rows
lost_rows : (n : ℕ) (old new : TablesState) → ChangesTable loses n old new
    → (m : ℕ) → option_map (λ (t : TableState). t.wanted) (table_at new m) ≡ option_map (λ (t : TableState). t.wanted) (table_at old m)
lost_rows n old new changes m =
    ap (option_map (λ t. t.wanted)) (changes m ∙ ap (λ b. cond b (option_map loses (table_at old n)) (table_at old m)) (same_number n m)) ∙ go (n == m) refl
  where
    kept_rows : (t : Option TableState) → option_map (λ (u : TableState). u.wanted) (option_map loses t) ≡ option_map (λ (u : TableState). u.wanted) t
    kept_rows None = refl
    kept_rows (Some t) = refl

    go : (b : Bool) → (n == m) ≡ b → option_map (λ (t : TableState). t.wanted) (cond b (option_map loses (table_at old n)) (table_at old m)) ≡ option_map (λ (t : TableState). t.wanted) (table_at old m)
    go true e = kept_rows (table_at old n) ∙ ap (λ k. option_map (λ (t : TableState). t.wanted) (table_at old k)) (eqb-true n m e)
    go false e = refl

-- a unit changes no rows that are wanted
unit_rows : (lost : Option ℕ) (old new : TablesState) (before behind : Outside) → IsUnit lost old new before behind
    → (m : ℕ) → option_map (λ (t : TableState). t.wanted) (table_at new m) ≡ option_map (λ (t : TableState). t.wanted) (table_at old m)
unit_rows lost old new before behind (inl idles) m = ap (λ s. option_map (λ t. t.wanted) (table_at s m)) idles.same
unit_rows lost old new before behind (inr (inl due)) m = lost_rows due.number old new due.tables m
unit_rows lost old new before behind (inr (inr calls)) m =
    same_rows calls.number calls.call.was calls.call.is old new calls.call.there calls.call.outcome.wanted calls.call.tables m

pub works_has : (old new : ParentState) (done : Done) (before behind : Outside) → (works : Works old new done before behind)
    → (k : Kept) → Has old k → (done ≡ given (Worked works.lost) k) × Has new (after (Worked works.lost) k)
works_has old new done before behind works k has = (
  works.given,
  record {
    reloads = ap (λ (s : ParentState). s.reloads) works.rest ∙ has.reloads;
    conf = ap (λ (s : ParentState). s.conf) works.rest ∙ has.conf;
    hops = ap (λ (s : ParentState). s.hops) works.rest ∙ has.hops;
    wanted = λ n. unit_rows works.lost old.tables new.tables before behind works.unit n ∙ has.wanted n;
  },
)

pub frame_follows : (frame : Frame) (old new : ParentState) (done : Done) → Takes frame old new done → Follows (Took frame) old new done
frame_follows frame old new done takes h stands = takes_has frame old new done takes (kept h) stands

pub unit_follows : (old new : ParentState) (done : Done) (before behind : Outside) → Works old new done before behind → (lost : Option ℕ) × Follows (Worked lost) old new done
unit_follows old new done before behind works = (works.lost, λ h stands. works_has old new done before behind works (kept h) stands)
