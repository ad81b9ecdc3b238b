-- What each event may be answered, by what happened before it.
use Rattle.std.specs.Prelude.{◌≡◌, ◌⊎◌, ℕ, ◌+◌, Bool, false, ◌&&◌, List, [], ◌∷◌, map, filter, Option, Some, None, IfSome, IfNone, Result, Ok, Err, if◌then◌else◌, codes, bytes_eq, true}
use Rattle.net_base.specs.declared.conf.ConfFault.{ConfFault}
use Rattle.net_base.specs.declared.addr.Addr.{Addr}
use Rattle.conf_tree.specs.declared.conf.Conf.{Conf}
use Rattle.run_record.specs.Taken.{taken}
use Rattle.core_msgs.specs.declared.event.Event.{Event}
use Rattle.core_msgs.specs.declared.event.Event.TheVariants as event
use Rattle.core_msgs.specs.declared.answer.Answer.{Answer}
use Rattle.core_msgs.specs.declared.answer.Line.{Line}
use Rattle.core_msgs.specs.declared.answer.Line.TheVariants as line
use Rattle.core_msgs.specs.declared.row.Row.TheVariants as row
use Rattle.core_msgs.specs.declared.answer.Refusal.{Refusal}
use Rattle.core_msgs.specs.declared.answer.Refusal.TheVariants as refusal
use Rattle.core_msgs.specs.declared.parts.PartName.TheVariants as part
use Rattle.route_world.specs.Networks.{network_rows}
use Rattle.run_record.specs.Run.{History, Step, generation, under_way, conf}
use Rattle.run_record.specs.Worlds.{IsRight}

abbrev pub step : Event → Answer → Step
step event answer = record { event = event; answer = answer }

-- a last line without report lines before it
abbrev pub only : Line → Answer
only last = record { lines = []; last = last }

abbrev pub refused : Refusal → Answer
refused why = only (line.Refused why)

-- the line refuses its event
abbrev pub IsRefusalLine : Line → Type 0
IsRefusalLine (line.RefusedText fault) = Unit {0}
IsRefusalLine (line.Refused why) = Unit {0}
IsRefusalLine _ = ⊥

abbrev pub IsRefusal : Answer → Type 0
IsRefusal answer = IsRefusalLine answer.last

-- ---- reload

-- a text with a fault is refused for it, and a configuration gets the generation behind this one
abbrev pub IsReadingOf : Result Conf ConfFault → ℕ → Line → Type 0
IsReadingOf (Err fault) last answer = answer ≡ line.RefusedText fault
IsReadingOf (Ok conf) last answer = answer ≡ line.OkGeneration (last + 1)

-- A reload is answered in one line. It is refused while another is under way, for want of memory, or for its text's first fault;
-- otherwise its configuration gets the next generation.
pub record AnswersReload (before : History) (text : List ℕ) (answer : Answer) : Type 0 where
  pub reports : answer.lines ≡ []
  pub busy : IfSome (under_way before) (λ other. answer.last ≡ line.Refused (refusal.UnderWay other))
  pub idle : IfNone (under_way before) ((answer.last ≡ line.Refused refusal.NoMemory) ⊎ IsReadingOf (taken text) (generation before) answer.last)

-- ---- settle

-- what is told of a reload that is done: by the session core, by the decision core, and in the end
abbrev pub reload_reports : Option ℕ → List Line
reload_reports None = []
reload_reports (Some generation) = line.AppliedSession generation ∷ line.AppliedDecision generation ∷ line.Reloaded generation ∷ []

abbrev pub is_reload_report : Line → Bool
is_reload_report (line.AppliedSession generation) = true
is_reload_report (line.AppliedDecision generation) = true
is_reload_report (line.Reloaded generation) = true
is_reload_report _ = false

-- the neighbours that the last line of a settle excepts
abbrev pub excepted : Line → List Addr
excepted (line.QuietExcept peers) = peers
excepted _ = []

abbrev pub SaysQuiet : Line → Type 0
SaysQuiet line.Quiet = Unit {0}
SaysQuiet (line.QuietExcept peers) = Unit {0}
SaysQuiet _ = ⊥

-- A settle ends quiet. The reload that was under way is done, with its reports once each and in their order, and what was sent is
-- right then.
pub record AnswersSettle (before : History) (answer : Answer) : Type 0 where
  pub quiet : SaysQuiet answer.last
  pub done : under_way (step event.Settle answer ∷ before) ≡ None
  pub reports : filter is_reload_report answer.lines ≡ reload_reports (under_way before)
  pub right : IsRight (step event.Settle answer ∷ before) (excepted answer.last)

-- ---- shows

-- whether the words are `show rib`
abbrev pub are_show_rib : List (List ℕ) → Bool
are_show_rib (first ∷ second ∷ []) = bytes_eq first (codes "show") && bytes_eq second (codes "rib")
are_show_rib _ = false

-- Loc-RIB is shown where nothing is left to do: without sessions its rows are those of the networks of the last accepted
-- configuration.
pub record AnswersShowRib (before : History) (answer : Answer) : Type 0 where
  pub busy : IfSome (under_way before) (λ other. answer ≡ only (line.Pending part.Reload))
  pub idle : IfNone (under_way before)
      (answer ≡ record { lines = map (λ r. line.Row (row.Route r)) (network_rows (conf before)); last = line.Ok })

-- ---- every event

abbrev pub AnswersControl : Bool → History → Answer → Type 0
AnswersControl true before answer = AnswersShowRib before answer
AnswersControl false before answer = answer ≡ refused refusal.NotBuilt

-- The event may be answered so behind the history. What isn't built yet is refused.
abbrev pub Answers : History → Event → Answer → Type 0
Answers before (event.Reload text) answer = AnswersReload before text answer
Answers before event.Settle answer = AnswersSettle before answer
Answers before (event.Ctl words) answer = AnswersControl (are_show_rib words) before answer
Answers before _ answer = answer ≡ refused refusal.NotBuilt

-- each event was answered so
abbrev pub IsRun : History → Type 0
IsRun [] = Unit {0}
IsRun (step ∷ before) = Answers before step.event step.answer × IsRun before
