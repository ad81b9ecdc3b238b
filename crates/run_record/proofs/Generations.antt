-- Generations climb, and a reload that is under way has the last one.
use Rattle.std.proofs.Common.{◌≡◌, ℕ, suc, ◌+◌, ◌≤◌, Bool, true, false, List, [], ◌∷◌, map, filter, fold, Option, None, Some, Result, Ok, Err, IfSome, IfNone, unwrap_or, ◌⊎◌, inl, inr, refl, sym, ap, ◌∙◌, arith}
use Rattle.net_base.specs.declared.conf.ConfFault.{ConfFault}
use Rattle.conf_tree.specs.declared.conf.Conf.{Conf}
use Rattle.core_msgs.specs.declared.event.Event.{Event}
use Rattle.core_msgs.specs.declared.event.Event.TheVariants as event
use Rattle.core_msgs.specs.declared.answer.Answer.{Answer}
use Rattle.core_msgs.specs.declared.answer.Line.{Line}
use Rattle.core_msgs.specs.declared.answer.Line.TheVariants as line
use Rattle.core_msgs.specs.declared.answer.Refusal.{Refusal}
use Rattle.core_msgs.specs.declared.answer.Refusal.TheVariants as refusal
use Rattle.core_msgs.specs.declared.row.Row.TheVariants as row
use Rattle.core_msgs.specs.declared.parts.PartName.TheVariants as part
use Rattle.route_world.specs.Networks.{network_rows}
use Rattle.attr_model.specs.declared.row.RouteRow.{RouteRow}
use Rattle.run_record.specs.Run.{History, generation, generation_told, under_way, under_way_told, conf, conf_told}
use Rattle.run_record.specs.Taken.{taken}
use Rattle.run_record.specs.Answers.{step, only, refused, Answers, AnswersReload, AnswersSettle, AnswersControl, AnswersShowRib, IsReadingOf, IsRun, SaysQuiet, are_show_rib, is_reload_report, reload_reports}

-- a line that accepts no reload leaves the generation
abbrev Leaves : Line → Type 0
Leaves l = (g : ℕ) → generation_told g l ≡ g

refusal_leaves : (why : Refusal) → Leaves (line.Refused why)
refusal_leaves why g = refl

quiet_leaves : (l : Line) → SaysQuiet l → Leaves l
quiet_leaves line.Quiet q g = refl
quiet_leaves (line.QuietExcept peers) q g = refl
quiet_leaves _ q g = absurd q

-- what the answer to a reload does, by what is under way and by its text
reload_line : (busy : Option ℕ) (read : Result Conf ConfFault) (last : ℕ) (l : Line) →
    IfSome busy (λ other. l ≡ line.Refused (refusal.UnderWay other)) →
    IfNone busy ((l ≡ line.Refused refusal.NoMemory) ⊎ IsReadingOf read last l) →
    Leaves l ⊎ (l ≡ line.OkGeneration (last + 1))
reload_line (Some other) read last l busy idle = inl (λ g. ap (generation_told g) busy)
reload_line None read last l busy (inl e) = inl (λ g. ap (generation_told g) e)
reload_line None (Err fault) last l busy (inr e) = inl (λ g. ap (generation_told g) e)
reload_line None (Ok conf) last l busy (inr e) = inr e

show_line : (busy : Option ℕ) (c : Conf) (answer : Answer) →
    IfSome busy (λ other. answer ≡ only (line.Pending part.Reload)) →
    IfNone busy (answer ≡ record { lines = map (λ r. line.Row (row.Route r)) (network_rows c); last = line.Ok }) → Leaves answer.last
show_line (Some other) c answer busy idle g = ap (λ (a : Answer). generation_told g a.last) busy
show_line None c answer busy idle g = ap (λ (a : Answer). generation_told g a.last) idle

refused_leaves : (why : Refusal) (answer : Answer) → answer ≡ refused why → Leaves answer.last
refused_leaves why answer e g = ap (λ (a : Answer). generation_told g a.last) e

control_line : (is_show : Bool) (h : History) (answer : Answer) → AnswersControl is_show h answer → Leaves answer.last
control_line true h answer a = show_line (under_way h) (conf h) answer a.busy a.idle
control_line false h answer a = refused_leaves refusal.NotBuilt answer a

-- every answer leaves the generation, or brings the next one
line_of_answer : (h : History) (event : Event) (answer : Answer) → Answers h event answer → Leaves answer.last ⊎ (answer.last ≡ line.OkGeneration (generation h + 1))
line_of_answer h (event.Reload text) answer a = reload_line (under_way h) (taken text) (generation h) answer.last a.busy a.idle
line_of_answer h event.Settle answer a = inl (quiet_leaves answer.last a.quiet)
line_of_answer h (event.Ctl words) answer a = inl (control_line (are_show_rib words) h answer a)
line_of_answer h _ answer a = inl (refused_leaves refusal.NotBuilt answer a)

accepted_line : (l : Line) (last g : ℕ) → l ≡ line.OkGeneration g → Leaves l ⊎ (l ≡ line.OkGeneration (last + 1)) → g ≡ last + 1
accepted_line l last g e (inl leaves) =
    absurd (omega (arith, sym (ap (generation_told 0) e) ∙ leaves 0, sym (ap (generation_told (g + 1)) e) ∙ leaves (g + 1)))
accepted_line l last g e (inr next) = ap (generation_told 0) (sym e ∙ next)

pub accepted_is_next : (h : History) (event : Event) (answer : Answer) (g : ℕ) → Answers h event answer → answer.last ≡ line.OkGeneration g → g ≡ generation h + 1
accepted_is_next h event answer g a e = accepted_line answer.last (generation h) g e (line_of_answer h event answer a)

told_by : (l : Line) (last : ℕ) → Leaves l ⊎ (l ≡ line.OkGeneration (last + 1)) → last ≤ generation_told last l
told_by l last (inl leaves) = omega (arith, leaves last)
told_by l last (inr next) = omega (arith, ap (generation_told last) next)

pub never_falls : (h : History) (event : Event) (answer : Answer) → Answers h event answer → generation h ≤ generation (step event answer ∷ h)
never_falls h event answer a = told_by answer.last (generation h) (line_of_answer h event answer a)

-- ---- what is under way

some_same : {m n : ℕ} → Some m ≡ Some n → m ≡ n
some_same {m} {n} e = ap (λ o. unwrap_or o 0) e

none_is_no_some : {n : ℕ} → None ≡ Some n → ⊥
none_is_no_some {n} e = omega (arith, ap (λ o. unwrap_or o 0) e, ap (λ o. unwrap_or o 1) e)

-- how the reload that is under way may stand behind an event
data Stage (before : Option ℕ) (last : ℕ) (after : Option ℕ) (l : Line) : Type 0 where
  Same : (is : after ≡ before) (leaves : Leaves l) → Stage before last after l
  Next : (is : after ≡ Some (last + 1)) (next : l ≡ line.OkGeneration (last + 1)) → Stage before last after l
  Done : (is : after ≡ None) → Stage before last after l

rows_keep : (u : Option ℕ) (routes : List RouteRow) → fold under_way_told u (map (λ route. line.Row (row.Route route)) routes) ≡ u
rows_keep u [] = refl
rows_keep u (route ∷ routes) = rows_keep u routes

abbrev under_way_by : Option ℕ → Answer → Option ℕ
under_way_by u answer = under_way_told (fold under_way_told u answer.lines) answer.last

stage_at : (busy : Option ℕ) (last : ℕ) (answer : Answer) (l : Line) → answer.lines ≡ [] → answer.last ≡ l →
    Stage busy last (under_way_told busy l) l → Stage busy last (under_way_by busy answer) answer.last
stage_at busy last answer l alone e stage = rw alone (rw e stage)

reload_stage : (busy : Option ℕ) (read : Result Conf ConfFault) (last : ℕ) (answer : Answer) → answer.lines ≡ [] →
    IfSome busy (λ other. answer.last ≡ line.Refused (refusal.UnderWay other)) →
    IfNone busy ((answer.last ≡ line.Refused refusal.NoMemory) ⊎ IsReadingOf read last answer.last) →
    Stage busy last (under_way_by busy answer) answer.last
reload_stage (Some other) read last answer alone busy idle = stage_at (Some other) last answer _ alone busy (Same refl (λ g. refl))
reload_stage None read last answer alone busy (inl e) = stage_at None last answer _ alone e (Same refl (λ g. refl))
reload_stage None (Err fault) last answer alone busy (inr e) = stage_at None last answer _ alone e (Same refl (λ g. refl))
reload_stage None (Ok conf) last answer alone busy (inr e) = stage_at None last answer _ alone e (Next refl refl)

only_stage : (busy : Option ℕ) (last : ℕ) (answer : Answer) (l : Line) → answer ≡ only l → under_way_told busy l ≡ busy → Leaves l →
    Stage busy last (under_way_by busy answer) answer.last
only_stage busy last answer l e same leaves = rw e (Same same leaves)

show_stage : (busy : Option ℕ) (last : ℕ) (c : Conf) (answer : Answer) →
    IfSome busy (λ other. answer ≡ only (line.Pending part.Reload)) →
    IfNone busy (answer ≡ record { lines = map (λ r. line.Row (row.Route r)) (network_rows c); last = line.Ok }) →
    Stage busy last (under_way_by busy answer) answer.last
show_stage (Some other) last c answer b i = only_stage (Some other) last answer _ b refl (λ g. refl)
show_stage None last c answer b i = rw i (Same (rows_keep None (network_rows c)) (λ g. refl))

control_stage : (is_show : Bool) (h : History) (answer : Answer) → AnswersControl is_show h answer →
    Stage (under_way h) (generation h) (under_way_by (under_way h) answer) answer.last
control_stage true h answer a = show_stage (under_way h) (generation h) (conf h) answer a.busy a.idle
control_stage false h answer a = only_stage (under_way h) (generation h) answer _ a refl (λ g. refl)

stage_of_answer : (h : History) (event : Event) (answer : Answer) → Answers h event answer →
    Stage (under_way h) (generation h) (under_way_by (under_way h) answer) answer.last
stage_of_answer h (event.Reload text) answer a = reload_stage (under_way h) (taken text) (generation h) answer a.reports a.busy a.idle
stage_of_answer h event.Settle answer a = Done a.done
stage_of_answer h (event.Ctl words) answer a = control_stage (are_show_rib words) h answer a
stage_of_answer h _ answer a = only_stage (under_way h) (generation h) answer _ a refl (λ g. refl)

stage_has_last : (before : Option ℕ) (last : ℕ) (after : Option ℕ) (l : Line) (g : ℕ) → Stage before last after l →
    ((n : ℕ) → before ≡ Some n → n ≡ last) → after ≡ Some g → g ≡ generation_told last l
stage_has_last before last after l g (Same is leaves) had e = had g (sym is ∙ e) ∙ sym (leaves last)
stage_has_last before last after l g (Next is next) had e = some_same (sym e ∙ is) ∙ sym (ap (generation_told last) next)
stage_has_last before last after l g (Done is) had e = absurd (none_is_no_some (sym is ∙ e))

pub under_way_is_last : (h : History) (g : ℕ) → IsRun h → under_way h ≡ Some g → g ≡ generation h
under_way_is_last [] g run e = absurd (none_is_no_some e)
under_way_is_last (s ∷ h) g run e =
    stage_has_last (under_way h) (generation h) _ s.answer.last g (stage_of_answer h s.event s.answer run.0) (λ n. under_way_is_last h n run.1) e
