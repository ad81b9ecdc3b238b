-- What stands behind any calls: the kernel's rows agree with the tables, and a stage is that of its configuration.
use Rattle.std.proofs.Common.{◌≡◌, ◌≢◌, ℕ, ◌+◌, Bool, true, false, ◌==◌, cond, List, [], ◌∷◌, ◌++◌, map, Option, Some, None, if◌then◌else◌, refl, sym, ap, subst, ◌∙◌, eqb-true, eq-eqb, true≢false, inl, inr}
use Rattle.std.specs.BTreeMap.{is_at}
use Rattle.std.specs.Map.{lookup}
use Rattle.std.specs.Option.{option_map}
use Rattle.std.specs.Ordering.{nat_cmp}
use Rattle.net_base.specs.declared.prefix.Prefix.{Prefix}
use Rattle.conf_tree.specs.declared.conf.Conf.{Conf}
use Rattle.conf_tree.specs.Canonical.{canonical}
use Rattle.core_msgs.specs.declared.frame.Done.{Done}
use Rattle.core_msgs.specs.declared.frame.Frame.{Frame}
use Rattle.core_msgs.specs.declared.frame.Frame.TheVariants as frames
use Rattle.core_msgs.specs.declared.parts.Core.TheVariants.{Decision}
use Rattle.kroute.specs.declared.phase.Coupling.TheVariants.{Coupled as IsCoupled}
use Rattle.kroute.specs.declared.phase.Phase.{Phase}
use Rattle.kroute.specs.declared.phase.Phase.TheVariants.{Lost}
use Rattle.kroute.specs.declared.phase.Work.{Work}
use Rattle.kroute.specs.Agreement.{Agrees, Fits}
use Rattle.kroute.specs.Calls.{IsNext, Outside}
use Rattle.kroute.specs.Phases.{coupling_of, decoupled, row_at, with_work}
use Rattle.kroute.specs.Rows.{Rows}
use Rattle.kroute.specs.Table.{TableState, loses, wants, wants_no}
use Rattle.kroute.specs.Tables.{ChangesTable, TablesState, table_at}
use Rattle.kroute.specs.Units.{IsUnit}
use Rattle.kroute.proofs.Agreement.{changes_agree, coupled_holds, fits_decoupled, unit_agrees, want_agrees, want_none_agrees}
use Rattle.nexthop_track.specs.Hops.{Hops, with_route}
use Rattle.nexthop_track.specs.Changes.{answers_changed}
use Rattle.reload_stage.specs.declared.item.StageItem.{StageItem}
use Rattle.reload_stage.specs.Stages.{stage_items}
use Rattle.parent_core.specs.declared.reloads.Reloads.{Reloads}
use Rattle.parent_core.specs.declared.reloads.Stage.{Stage}
use Rattle.parent_core.specs.declared.reloads.Stage.TheVariants.{Idle, AtSession, AtDecision}
use Rattle.parent_core.specs.Calls.{Acks, Advances, Takes}
use Rattle.parent_core.specs.Frames.{answered, nothing, only_frames, staged}
use Rattle.parent_core.specs.History.{Kept, kept, nothing_kept, Has, History, Step, Accepted, Took, Routed, Worked, Arranged, after_frame, advanced, given, given_at, rows_of}
use Rattle.parent_core.specs.KernelTables.{Configures, is_among, is_switched, switched_to, tables_of, taken}
use Rattle.parent_core.specs.Reloads.{accepted}
use Rattle.parent_core.specs.Runs.{Does, Held, LeadsTo, new_parent}
use Rattle.parent_core.specs.State.{ParentState}
use Rattle.parent_core.proofs.Following.{takes_has, works_has}
use Rattle.parent_core.proofs.Taking.{same_number}

no_table : (t : TableState) → None ≡ Some t → ⊥
no_table t e = cc

one_table : (a b : TableState) → Some a ≡ Some b → a ≡ b
one_table a b e = cc

one_rows : (a b : Rows) → Some a ≡ Some b → a ≡ b
one_rows a b e = cc

-- ---- the kernel's rows agree

switched_fits : (on : Bool) (t : TableState) (rows : Rows) → Fits t.phase t.wanted rows → Fits (switched_to on t).phase (switched_to on t).wanted rows
switched_fits true t rows fits = tt
switched_fits false t rows fits = fits_decoupled t.phase t.wanted rows fits

taken_fits : (switched on : Bool) (t : TableState) (rows : Rows) → Fits t.phase t.wanted rows
    → Fits (taken switched on (Some t)).phase (taken switched on (Some t)).wanted rows
taken_fits true on t rows fits = switched_fits on t rows fits
taken_fits false on t rows fits = fits

new_fits : (switched on : Bool) (rows : Rows) → Fits (taken switched on None).phase (taken switched on None).wanted rows
new_fits switched true rows = tt
new_fits switched false rows = tt

configured_agree : (was is : Conf) (held : Held) (old new : TablesState) → Configures was is old new → Agrees held old → Agrees held new
configured_agree was is held old new configures agrees n t rows there told =
    go (is_among (tables_of is) n) (table_at old n) (λ u e. agrees n u rows e told) (sym (configures n) ∙ there)
  where
    go : (b : Bool) (table : Option TableState) → ((u : TableState) → table ≡ Some u → Fits u.phase u.wanted rows)
        → (if b then Some (taken (is_switched was.fib_update is.fib_update) is.fib_update table) else None) ≡ Some t → Fits t.phase t.wanted rows
    go true None fits e = subst (λ (u : TableState). Fits u.phase u.wanted rows) (one_table _ t e) (new_fits (is_switched was.fib_update is.fib_update) is.fib_update rows)
    go true (Some u) fits e = subst (λ (v : TableState). Fits v.phase v.wanted rows) (one_table _ t e)
        (taken_fits (is_switched was.fib_update is.fib_update) is.fib_update u rows (fits u refl))
    go false table fits e = absurd (no_table t e)

same_tables_agree : (held : Held) (old new : TablesState) → new ≡ old → Agrees held old → Agrees held new
same_tables_agree held old new same agrees = subst (λ (s : TablesState). Agrees held s) (sym same) agrees

same_parent_agrees : (held : Held) (old new : ParentState) → new ≡ old → Agrees held old.tables → Agrees held new.tables
same_parent_agrees held old new same agrees = same_tables_agree held old.tables new.tables (ap (λ (s : ParentState). s.tables) same) agrees

advanced_agree : (stage : Stage) (held : Held) (old new : ParentState) (done : Done) → Advances stage old new done → Agrees held old.tables → Agrees held new.tables
advanced_agree Idle held old new done passes agrees = same_parent_agrees held old new passes.0 agrees
advanced_agree (AtSession conf items) held old new done up agrees = configured_agree old.conf conf held old.tables new.tables up.tables agrees
advanced_agree AtDecision held old new done ends agrees = same_tables_agree held old.tables new.tables (ap (λ (s : ParentState). s.tables) ends.0) agrees

acks_agree : (generation : ℕ) (held : Held) (old new : ParentState) (done : Done) → Acks generation old new done → Agrees held old.tables → Agrees held new.tables
acks_agree generation held old new done acks agrees = go (generation == old.reloads.generation) refl
  where
    go : (b : Bool) → (generation == old.reloads.generation) ≡ b → Agrees held new.tables
    go true e = advanced_agree old.reloads.stage held old new done (acks.last (eqb-true generation old.reloads.generation e)) agrees
    go false e = same_parent_agrees held old new (acks.other (λ same. true≢false (sym (eq-eqb generation old.reloads.generation same) ∙ e))).0 agrees

frame_agrees : (frame : Frame) (held : Held) (old new : ParentState) (done : Done) → Takes frame old new done → Agrees held old.tables → Agrees held new.tables
frame_agrees (frames.Ack generation) held old new done acks agrees = acks_agree generation held old new done acks agrees
frame_agrees (frames.Track a) held old new done tracks agrees = same_tables_agree held old.tables new.tables (ap (λ (s : ParentState). s.tables) tracks.0) agrees
frame_agrees (frames.Untrack a) held old new done tracks agrees = same_tables_agree held old.tables new.tables (ap (λ (s : ParentState). s.tables) tracks.0) agrees
frame_agrees (frames.FibSet n p hop) held old new done changes agrees = want_agrees p hop held n old.tables new.tables changes.0.table agrees
frame_agrees (frames.FibDel n p) held old new done changes agrees = want_none_agrees p held n old.tables new.tables changes.0.table agrees
frame_agrees (frames.Couple n on) held old new done changes agrees = changes_agree (switched_to on) (switched_fits on) held n old.tables new.tables changes.0.table agrees
frame_agrees (frames.Begin generation size) held old new done passes agrees = same_parent_agrees held old new passes.0 agrees
frame_agrees (frames.Piece piece) held old new done passes agrees = same_parent_agrees held old new passes.0 agrees
frame_agrees (frames.Commit generation) held old new done passes agrees = same_parent_agrees held old new passes.0 agrees
frame_agrees (frames.Up session peer asn id agreed) held old new done passes agrees = same_parent_agrees held old new passes.0 agrees
frame_agrees (frames.Down session) held old new done passes agrees = same_parent_agrees held old new passes.0 agrees
frame_agrees (frames.Routes session family withdrawn announced) held old new done passes agrees = same_parent_agrees held old new passes.0 agrees
frame_agrees (frames.Credit session messages) held old new done passes agrees = same_parent_agrees held old new passes.0 agrees
frame_agrees (frames.Refresh session family) held old new done passes agrees = same_parent_agrees held old new passes.0 agrees
frame_agrees (frames.Close session code sub most_held most) held old new done passes agrees = same_parent_agrees held old new passes.0 agrees
frame_agrees (frames.Nexthop hop valid) held old new done passes agrees = same_parent_agrees held old new passes.0 agrees
frame_agrees (frames.CtlWords words) held old new done passes agrees = same_parent_agrees held old new passes.0 agrees
frame_agrees (frames.CtlText text) held old new done passes agrees = same_parent_agrees held old new passes.0 agrees
frame_agrees (frames.CtlEnd status) held old new done passes agrees = same_parent_agrees held old new passes.0 agrees

same_rows_agree : (was held : Held) (s : TablesState) → held ≡ was → Agrees was s → Agrees held s
same_rows_agree was held s same agrees = subst (λ (rows : Held). Agrees rows s) (sym same) agrees

step_agrees : (step : Step) (old new : ParentState) (was held : Held) → Does step old new was held → Agrees was old.tables → Agrees held new.tables
step_agrees (Accepted conf) old new was held (state, same) agrees =
    same_rows_agree was held new.tables same (same_tables_agree was old.tables new.tables (ap (λ (s : ParentState). s.tables) state) agrees)
step_agrees (Took frame) old new was held (done, takes, same) agrees = same_rows_agree was held new.tables same (frame_agrees frame was old new done takes agrees)
step_agrees (Routed p up) old new was held (done, routes, same) agrees =
    same_rows_agree was held new.tables same (same_tables_agree was old.tables new.tables (ap (λ (s : ParentState). s.tables) routes.state) agrees)
step_agrees (Worked lost) old new was held unit agrees =
    same_rows_agree unit.behind.held held new.tables (sym unit.rows_behind) (unit_agrees unit.works.lost old.tables new.tables unit.before unit.behind unit.works.unit
    (same_rows_agree was unit.before.held old.tables unit.rows_before agrees))
step_agrees (Arranged table calls) old new was held (tables, rest, same) agrees =
    same_rows_agree was held new.tables same (λ n t rows there told. agrees n t rows (ap (lookup (is_at (nat_cmp n))) (sym tables) ∙ there) told)

behind_agrees : (h : History) (s : ParentState) (held : Held) → LeadsTo h s held → Agrees held s.tables
behind_agrees [] s held start = same_tables_agree held new_parent.tables s.tables (ap (λ (p : ParentState). p.tables) start) (λ n t rows there told. absurd (no_table t there))
behind_agrees (step ∷ h) s held (old, was, leads, does) = step_agrees step old s was held does (behind_agrees h old was leads)

-- ---- what the parent has is what is kept

step_has : (step : Step) (old new : ParentState) (was held : Held) (h : History) → Does step old new was held → Has old (kept h) → Has new (kept (step ∷ h))
step_has (Accepted conf) old new was held h (state, same) has = record {
  reloads = ap (λ (s : ParentState). s.reloads) state ∙ ap (accepted conf) has.reloads;
  conf = ap (λ (s : ParentState). s.conf) state ∙ has.conf;
  hops = ap (λ (s : ParentState). s.hops) state ∙ has.hops;
  wanted = λ n. ap (λ (s : ParentState). rows_of s n) state ∙ has.wanted n;
}
step_has (Took frame) old new was held h (done, takes, same) has = (takes_has frame old new done takes (kept h) has).1
step_has (Routed p up) old new was held h (done, routes, same) has = record {
  reloads = ap (λ (s : ParentState). s.reloads) routes.state ∙ has.reloads;
  conf = ap (λ (s : ParentState). s.conf) routes.state ∙ has.conf;
  hops = ap (λ (s : ParentState). s.hops) routes.state ∙ ap (λ (hops : Hops). record hops { routes = with_route up hops.routes p }) has.hops;
  wanted = λ n. ap (λ (s : ParentState). rows_of s n) routes.state ∙ has.wanted n;
}
step_has (Worked lost) old new was held h unit has = (works_has old new unit.done unit.before unit.behind unit.works (kept h) has).1
step_has (Arranged table calls) old new was held h (tables, rest, same) has = record {
  reloads = ap (λ (s : ParentState). s.reloads) rest ∙ has.reloads;
  conf = ap (λ (s : ParentState). s.conf) rest ∙ has.conf;
  hops = ap (λ (s : ParentState). s.hops) rest ∙ has.hops;
  wanted = λ n. ap (λ (ts : List (ℕ × TableState)). option_map (λ t. t.wanted) (lookup (is_at (nat_cmp n)) ts)) tables ∙ has.wanted n;
}

behind_has : (h : History) (s : ParentState) (held : Held) → LeadsTo h s held → Has s (kept h)
behind_has [] s held start = subst (λ (p : ParentState). Has p nothing_kept) (sym start) (record { reloads = refl; conf = refl; hops = refl; wanted = λ n. refl })
behind_has (step ∷ h) s held (old, was, leads, does) = step_has step old s was held h does (behind_has h old was leads)

pub coupled_has_wanted : (h : History) (s : ParentState) (held : Held) (n : ℕ) (t : TableState) (wanted rows : Rows) → LeadsTo h s held → table_at s.tables n ≡ Some t
    → (kept h).wanted n ≡ Some wanted → held n ≡ Some rows → coupling_of t.phase ≡ IsCoupled → IsNext t.phase None → (q : Prefix) → row_at rows q ≡ row_at wanted q
coupled_has_wanted h s held n t wanted rows leads there kept_rows told is none q =
    coupled_holds t.phase t.wanted rows (behind_agrees h s held leads n t rows there told) is none q ∙ ap (λ (rs : Rows). row_at rs q) same
  where
    same : t.wanted ≡ wanted
    same = one_rows t.wanted wanted (sym (ap (option_map (λ (u : TableState). u.wanted)) there) ∙ (behind_has h s held leads).wanted n ∙ kept_rows)

pub rows_fit : (h : History) (s : ParentState) (held : Held) (n : ℕ) (t : TableState) (rows : Rows) → LeadsTo h s held → table_at s.tables n ≡ Some t → held n ≡ Some rows
    → Fits t.phase t.wanted rows
rows_fit h s held n t rows leads there told = behind_agrees h s held leads n t rows there told

-- ---- a lost table rests

stays_lost : (t u : TableState) (old new : Option TableState) → old ≡ Some t → new ≡ Some u → t.phase ≡ Lost → new ≡ old → u.phase ≡ Lost
stays_lost t u old new there now lost same = ap (λ (v : TableState). v.phase) (sym (one_table t u (sym there ∙ sym same ∙ now))) ∙ lost

changed_lost : (f : TableState → TableState) (m n : ℕ) (t u : TableState) (old new : TablesState) → (m ≡ n → (f t).phase ≡ Lost) → ChangesTable f m old new
    → table_at old n ≡ Some t → table_at new n ≡ Some u → t.phase ≡ Lost → u.phase ≡ Lost
changed_lost f m n t u old new keeps changes there now lost = go (m == n) refl
  where
    is : (b : Bool) → (m == n) ≡ b → table_at new n ≡ cond b (option_map f (table_at old m)) (table_at old n)
    is b e = changes n ∙ ap (λ (c : Bool). cond c (option_map f (table_at old m)) (table_at old n)) (same_number m n ∙ e)

    go : (b : Bool) → (m == n) ≡ b → u.phase ≡ Lost
    go true e = ap (λ (v : TableState). v.phase) (sym (one_table (f t) u (sym (ap (option_map f) (ap (table_at old) (eqb-true m n e) ∙ there)) ∙ sym (is true e) ∙ now)))
        ∙ keeps (eqb-true m n e)
    go false e = stays_lost t u (table_at old n) (table_at new n) there now lost (is false e)

unswitched : (was is : Bool) → is ≡ was → is_switched was is ≡ false
unswitched true true e = refl
unswitched true false e = absurd (true≢false (sym e))
unswitched false true e = absurd (true≢false e)
unswitched false false e = refl

configured_lost : (was is : Conf) (n : ℕ) (t u : TableState) (old new : TablesState) → is.fib_update ≡ was.fib_update → Configures was is old new
    → table_at old n ≡ Some t → table_at new n ≡ Some u → t.phase ≡ Lost → u.phase ≡ Lost
configured_lost was is n t u old new same configures there now lost = go (is_among (tables_of is) n) (sym now ∙ configures n)
  where
    go : (b : Bool) → Some u ≡ (if b then Some (taken (is_switched was.fib_update is.fib_update) is.fib_update (table_at old n)) else None) → u.phase ≡ Lost
    go true e = ap (λ (v : TableState). v.phase) (one_table u t (e ∙ ap Some (ap (λ (b : Bool). taken b is.fib_update (table_at old n)) (unswitched was.fib_update is.fib_update same)
        ∙ ap (taken false is.fib_update) there))) ∙ lost
    go false e = absurd (no_table u (sym e))

same_parent_lost : (n : ℕ) (t u : TableState) (old new : ParentState) → new.tables ≡ old.tables → table_at old.tables n ≡ Some t → table_at new.tables n ≡ Some u
    → t.phase ≡ Lost → u.phase ≡ Lost
same_parent_lost n t u old new same there now lost = stays_lost t u (table_at old.tables n) (table_at new.tables n) there now lost (ap (λ (s : TablesState). table_at s n) same)

advanced_lost : (stage : Stage) (n : ℕ) (t u : TableState) (old new : ParentState) (done : Done) → Advances stage old new done → new.conf.fib_update ≡ old.conf.fib_update
    → table_at old.tables n ≡ Some t → table_at new.tables n ≡ Some u → t.phase ≡ Lost → u.phase ≡ Lost
advanced_lost Idle n t u old new done passes same there now lost = same_parent_lost n t u old new (ap (λ (s : ParentState). s.tables) passes.0) there now lost
advanced_lost (AtSession conf items) n t u old new done up same there now lost =
    configured_lost old.conf conf n t u old.tables new.tables (sym (ap (λ (s : ParentState). s.conf.fib_update) up.rest) ∙ same) up.tables there now lost
advanced_lost AtDecision n t u old new done ends same there now lost = same_parent_lost n t u old new (ap (λ (s : ParentState). s.tables) ends.0) there now lost

acks_lost : (generation n : ℕ) (t u : TableState) (old new : ParentState) (done : Done) → Acks generation old new done → new.conf.fib_update ≡ old.conf.fib_update
    → table_at old.tables n ≡ Some t → table_at new.tables n ≡ Some u → t.phase ≡ Lost → u.phase ≡ Lost
acks_lost generation n t u old new done acks same there now lost = go (generation == old.reloads.generation) refl
  where
    go : (b : Bool) → (generation == old.reloads.generation) ≡ b → u.phase ≡ Lost
    go true e = advanced_lost old.reloads.stage n t u old new done (acks.last (eqb-true generation old.reloads.generation e)) same there now lost
    go false e = same_parent_lost n t u old new
        (ap (λ (s : ParentState). s.tables) (acks.other (λ last. true≢false (sym (eq-eqb generation old.reloads.generation last) ∙ e))).0) there now lost

switched_lost : (on : Bool) (m n : ℕ) (t : TableState) → Took (frames.Couple m on) ≢ Took (frames.Couple n true) → t.phase ≡ Lost → m ≡ n → (switched_to on t).phase ≡ Lost
switched_lost true m n t other lost same = absurd (other (ap (λ (k : ℕ). Took (frames.Couple k true)) same))
switched_lost false m n t other lost same = ap decoupled lost

frame_lost : (frame : Frame) (n : ℕ) (t u : TableState) (old new : ParentState) (done : Done) → Takes frame old new done → Took frame ≢ Took (frames.Couple n true)
    → new.conf.fib_update ≡ old.conf.fib_update → table_at old.tables n ≡ Some t → table_at new.tables n ≡ Some u → t.phase ≡ Lost → u.phase ≡ Lost
frame_lost (frames.Ack generation) n t u old new done acks other same there now lost = acks_lost generation n t u old new done acks same there now lost
frame_lost (frames.Track a) n t u old new done tracks other same there now lost = same_parent_lost n t u old new (ap (λ (s : ParentState). s.tables) tracks.0) there now lost
frame_lost (frames.Untrack a) n t u old new done tracks other same there now lost = same_parent_lost n t u old new (ap (λ (s : ParentState). s.tables) tracks.0) there now lost
frame_lost (frames.FibSet m p hop) n t u old new done changes other same there now lost =
    changed_lost (wants p hop) m n t u old.tables new.tables (λ e. ap (with_work p) lost) changes.0.table there now lost
frame_lost (frames.FibDel m p) n t u old new done changes other same there now lost =
    changed_lost (wants_no p) m n t u old.tables new.tables (λ e. ap (with_work p) lost) changes.0.table there now lost
frame_lost (frames.Couple m on) n t u old new done changes other same there now lost =
    changed_lost (switched_to on) m n t u old.tables new.tables (switched_lost on m n t other lost) changes.0.table there now lost
frame_lost (frames.Begin generation size) n t u old new done passes other same there now lost = same_parent_lost n t u old new (ap (λ (s : ParentState). s.tables) passes.0) there now lost
frame_lost (frames.Piece piece) n t u old new done passes other same there now lost = same_parent_lost n t u old new (ap (λ (s : ParentState). s.tables) passes.0) there now lost
frame_lost (frames.Commit generation) n t u old new done passes other same there now lost = same_parent_lost n t u old new (ap (λ (s : ParentState). s.tables) passes.0) there now lost
frame_lost (frames.Up session peer asn id agreed) n t u old new done passes other same there now lost = same_parent_lost n t u old new (ap (λ (s : ParentState). s.tables) passes.0) there now lost
frame_lost (frames.Down session) n t u old new done passes other same there now lost = same_parent_lost n t u old new (ap (λ (s : ParentState). s.tables) passes.0) there now lost
frame_lost (frames.Routes session family withdrawn announced) n t u old new done passes other same there now lost =
    same_parent_lost n t u old new (ap (λ (s : ParentState). s.tables) passes.0) there now lost
frame_lost (frames.Credit session messages) n t u old new done passes other same there now lost = same_parent_lost n t u old new (ap (λ (s : ParentState). s.tables) passes.0) there now lost
frame_lost (frames.Refresh session family) n t u old new done passes other same there now lost = same_parent_lost n t u old new (ap (λ (s : ParentState). s.tables) passes.0) there now lost
frame_lost (frames.Close session code sub held most) n t u old new done passes other same there now lost = same_parent_lost n t u old new (ap (λ (s : ParentState). s.tables) passes.0) there now lost
frame_lost (frames.Nexthop hop valid) n t u old new done passes other same there now lost = same_parent_lost n t u old new (ap (λ (s : ParentState). s.tables) passes.0) there now lost
frame_lost (frames.CtlWords words) n t u old new done passes other same there now lost = same_parent_lost n t u old new (ap (λ (s : ParentState). s.tables) passes.0) there now lost
frame_lost (frames.CtlText text) n t u old new done passes other same there now lost = same_parent_lost n t u old new (ap (λ (s : ParentState). s.tables) passes.0) there now lost
frame_lost (frames.CtlEnd status) n t u old new done passes other same there now lost = same_parent_lost n t u old new (ap (λ (s : ParentState). s.tables) passes.0) there now lost

no_work : (work : Work) → Some work ≡ None → ⊥
no_work work e = cc

unit_rests : (lost_by : Option ℕ) (n : ℕ) (t u : TableState) (old new : TablesState) (before behind : Outside) → IsUnit lost_by old new before behind
    → table_at old n ≡ Some t → table_at new n ≡ Some u → t.phase ≡ Lost → (u.phase ≡ Lost) × (behind.held n ≡ before.held n)
unit_rests lost_by n t u old new before behind (inl idles) there now lost = (
  stays_lost t u (table_at old n) (table_at new n) there now lost (ap (λ (s : TablesState). table_at s n) idles.same),
  ap (λ (o : Outside). o.held n) idles.untouched,
)
unit_rests lost_by n t u old new before behind (inr (inl due)) there now lost = (
  changed_lost loses due.number n t u old new (λ e. refl) due.tables there now lost,
  ap (λ (o : Outside). o.held n) due.untouched,
)
unit_rests lost_by n t u old new before behind (inr (inr calls)) there now lost = (
  stays_lost t u (table_at old n) (table_at new n) there now lost
      (calls.call.tables n ∙ ap (λ (b : Bool). cond b (Some calls.call.is) (table_at old n)) (same_number calls.number n ∙ apart (calls.number == n) refl)),
  calls.call.outcome.others n (λ e. another (sym e)),
)
  where
    another : calls.number ≡ n → ⊥
    another e = no_work calls.work (subst (λ (phase : Phase). IsNext phase (Some calls.work))
        (ap (λ (v : TableState). v.phase) (one_table calls.call.was t (sym calls.call.there ∙ ap (table_at old) e ∙ there)) ∙ lost) calls.call.next)

    apart : (b : Bool) → (calls.number == n) ≡ b → (calls.number == n) ≡ false
    apart true e = absurd (another (eqb-true calls.number n e))
    apart false e = e

pub lost_rests : (step : Step) (old new : ParentState) (was held : Held) (n : ℕ) (t u : TableState) → Does step old new was held → table_at old.tables n ≡ Some t
    → table_at new.tables n ≡ Some u → t.phase ≡ Lost → step ≢ Took (frames.Couple n true) → new.conf.fib_update ≡ old.conf.fib_update → (u.phase ≡ Lost) × (held n ≡ was n)
lost_rests (Accepted conf) old new was held n t u (state, same_rows) there now lost other same =
    (same_parent_lost n t u old new (ap (λ (s : ParentState). s.tables) state) there now lost, ap (λ (rows : Held). rows n) same_rows)
lost_rests (Took frame) old new was held n t u (done, takes, same_rows) there now lost other same =
    (frame_lost frame n t u old new done takes other same there now lost, ap (λ (rows : Held). rows n) same_rows)
lost_rests (Routed p up) old new was held n t u (done, routes, same_rows) there now lost other same =
    (same_parent_lost n t u old new (ap (λ (s : ParentState). s.tables) routes.state) there now lost, ap (λ (rows : Held). rows n) same_rows)
lost_rests (Worked by) old new was held n t u unit there now lost other same =
    let rests = unit_rests unit.works.lost n t u old.tables new.tables unit.before unit.behind unit.works.unit there now lost in
    (rests.0, sym (ap (λ (rows : Held). rows n) unit.rows_behind) ∙ rests.1 ∙ ap (λ (rows : Held). rows n) unit.rows_before)
lost_rests (Arranged table calls) old new was held n t u (tables, rest, same_rows) there now lost other same =
    (stays_lost t u (table_at old.tables n) (table_at new.tables n) there now lost (ap (lookup (is_at (nat_cmp n))) tables), ap (λ (rows : Held). rows n) same_rows)

-- ---- a stage is that of its configuration

abbrev IsStaged : Reloads → Type 0
IsStaged r = (conf : Conf) (items : List StageItem) → r.stage ≡ AtSession conf items → items ≡ stage_items r.generation (canonical conf)

idle_not_staged : (conf : Conf) (items : List StageItem) → Idle ≡ AtSession conf items → ⊥
idle_not_staged conf items e = cc

decision_not_staged : (conf : Conf) (items : List StageItem) → AtDecision ≡ AtSession conf items → ⊥
decision_not_staged conf items e = cc

same_conf : (a b : Conf) (x y : List StageItem) → AtSession a x ≡ AtSession b y → a ≡ b
same_conf a b x y e = cc

same_items : (a b : Conf) (x y : List StageItem) → AtSession a x ≡ AtSession b y → x ≡ y
same_items a b x y e = cc

advanced_staged : (stage : Stage) (k : Kept) → IsStaged k.reloads → IsStaged (advanced stage k).reloads
advanced_staged Idle k is conf items e = is conf items e
advanced_staged (AtSession c x) k is conf items e = absurd (decision_not_staged conf items e)
advanced_staged AtDecision k is conf items e = absurd (idle_not_staged conf items e)

ack_staged : (b : Bool) (k : Kept) → IsStaged k.reloads → IsStaged (if b then advanced k.reloads.stage k else k).reloads
ack_staged true k is = advanced_staged k.reloads.stage k is
ack_staged false k is = is

frame_staged : (frame : Frame) (k : Kept) → IsStaged k.reloads → IsStaged (after_frame frame k).reloads
frame_staged (frames.Ack generation) k is = ack_staged (generation == k.reloads.generation) k is
frame_staged (frames.Track a) k is = is
frame_staged (frames.Untrack a) k is = is
frame_staged (frames.FibSet n p hop) k is = is
frame_staged (frames.FibDel n p) k is = is
frame_staged (frames.Couple n on) k is = is
frame_staged (frames.Begin generation size) k is = is
frame_staged (frames.Piece piece) k is = is
frame_staged (frames.Commit generation) k is = is
frame_staged (frames.Up session peer asn id agreed) k is = is
frame_staged (frames.Down session) k is = is
frame_staged (frames.Routes session family withdrawn announced) k is = is
frame_staged (frames.Credit session messages) k is = is
frame_staged (frames.Refresh session family) k is = is
frame_staged (frames.Close session code sub held most) k is = is
frame_staged (frames.Nexthop hop valid) k is = is
frame_staged (frames.CtlWords words) k is = is
frame_staged (frames.CtlText text) k is = is
frame_staged (frames.CtlEnd status) k is = is

kept_staged : (h : History) → IsStaged (kept h).reloads
kept_staged [] conf items e = absurd (idle_not_staged conf items e)
kept_staged (Accepted c ∷ h) conf items e =
    let generation = (kept h).reloads.generation + 1 in
    sym (same_items c conf _ items e) ∙ ap (λ (d : Conf). stage_items generation (canonical d)) (same_conf c conf _ items e)
kept_staged (Took frame ∷ h) conf items e = frame_staged frame (kept h) (kept_staged h) conf items e
kept_staged (Routed p up ∷ h) conf items e = kept_staged h conf items e
kept_staged (Worked lost ∷ h) conf items e = kept_staged h conf items e
kept_staged (Arranged table calls ∷ h) conf items e = kept_staged h conf items e

pub one_stage : (h : History) (conf : Conf) (items : List StageItem) → (kept h).reloads.stage ≡ AtSession conf items
    → given (Took (frames.Ack (kept h).reloads.generation)) (kept h)
    ≡ only_frames (map answered (answers_changed (kept h).hops (record (kept h).hops { qualify_default = conf.qualify_default }))
    ++ staged Decision (stage_items (kept h).reloads.generation (canonical conf)))
one_stage h conf items e =
    ap (λ (b : Bool). if b then given_at k.reloads.stage k else nothing) (eq-eqb k.reloads.generation k.reloads.generation refl)
    ∙ ap (λ (stage : Stage). given_at stage k) e
    ∙ ap (λ (is : List StageItem). only_frames (map answered (answers_changed k.hops (record k.hops { qualify_default = conf.qualify_default })) ++ staged Decision is)) (kept_staged h conf items e)
  where
    k : Kept
    k = kept h
