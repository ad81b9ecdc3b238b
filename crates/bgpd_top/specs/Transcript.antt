-- What is written for an event file: the transcript of its events.
use Rattle.std.specs.Prelude.{◌≡◌, ℕ, List, [], ◌∷◌, ◌++◌, Option, IfSome}
use Rattle.std.specs.Io.KnownBytes.{append_known}
use Rattle.core_msgs.specs.declared.event.Event.{Event}
use Rattle.event_text.specs.Grammar.{FileEnd, FileEvents}
use Rattle.event_text.specs.Lines.{answer_text}
use Rattle.run_record.specs.Run.{History}
use Rattle.run_record.specs.Answers.{IsRun}

-- the events of a history, the oldest first
abbrev pub events_of : History → List Event
events_of [] = []
events_of (step ∷ before) = events_of before ++ step.event ∷ []

-- the answers of a history as they are written, the oldest first
abbrev pub text_of : History → List ℕ
text_of [] = []
text_of (step ∷ before) = text_of before ++ answer_text step.answer

-- events in front of those of a file
abbrev pub with_events : List Event → FileEvents → FileEvents
with_events events rest = record { events = events ++ rest.events; end = rest.end }

-- What was written is the transcript of a run over all events of the file, which ends so. The file's events are known
-- where the source tells its bytes, and what was written where the sink tells it.
pub record Transcribes (end : FileEnd) (file : Option FileEvents) (before after : Option (List ℕ)) : Type 0 where
  pub history : History
  pub run : IsRun history
  pub events : IfSome file (λ all. all ≡ record { events = events_of history; end = end })
  pub text : after ≡ append_known before (text_of history)

-- What was written is the transcript of a run over the first events of the file.
pub record TranscribesFront (file : Option FileEvents) (before after : Option (List ℕ)) : Type 0 where
  pub history : History
  pub run : IsRun history
  pub events : IfSome file (λ all. (rest : List Event) × (all.events ≡ events_of history ++ rest))
  pub text : after ≡ append_known before (text_of history)
