-- Runs: the events that came with their answers, and what they say of the speaker.
use Rattle.std.specs.Prelude.{ℕ, List, [], ◌∷◌, fold, Option, Some, None, Result, Ok, Err}
use Rattle.net_base.specs.declared.conf.ConfFault.{ConfFault}
use Rattle.conf_tree.specs.declared.conf.Conf.{Conf}
use Rattle.conf_tree.specs.Empty.{empty_conf}
use Rattle.run_record.specs.Taken.{taken}
use Rattle.core_msgs.specs.declared.event.Event.{Event}
use Rattle.core_msgs.specs.declared.event.Event.TheVariants.{Reload}
use Rattle.core_msgs.specs.declared.answer.Answer.{Answer}
use Rattle.core_msgs.specs.declared.answer.Line.{Line}
use Rattle.core_msgs.specs.declared.answer.Line.TheVariants.{OkGeneration, Reloaded}

-- an event with its answer
pub record Step : Type 0 where
  pub event : Event
  pub answer : Answer

-- what has happened so far, the newest step first
abbrev pub History : Type 0
History = List Step

-- the generation of the last reload that was accepted, or 0
abbrev pub generation_told : ℕ → Line → ℕ
generation_told before (OkGeneration generation) = generation
generation_told before _ = before

abbrev pub generation : History → ℕ
generation [] = 0
generation (step ∷ before) = generation_told (generation before) step.answer.last

-- the generation that is accepted and not yet reloaded, by what a line says of it
abbrev pub under_way_told : Option ℕ → Line → Option ℕ
under_way_told before (OkGeneration generation) = Some generation
under_way_told before (Reloaded generation) = None
under_way_told before _ = before

abbrev pub under_way : History → Option ℕ
under_way [] = None
under_way (step ∷ before) = under_way_told (fold under_way_told (under_way before) step.answer.lines) step.answer.last

-- the configuration of a text that is taken
abbrev pub conf_or : Conf → Result Conf ConfFault → Conf
conf_or before (Ok conf) = conf
conf_or before (Err fault) = before

-- a reload that is accepted brings the configuration of its text
abbrev pub conf_told : Conf → Event → Line → Conf
conf_told before (Reload text) (OkGeneration generation) = conf_or before (taken text)
conf_told before _ _ = before

abbrev pub conf : History → Conf
conf [] = empty_conf
conf (step ∷ before) = conf_told (conf before) step.event step.answer.last
