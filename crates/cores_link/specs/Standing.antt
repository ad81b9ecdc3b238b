-- The Router stands for a history: what it keeps is what the history says.
use Rattle.std.specs.Prelude.{◌≡◌, ℕ, Bool, true, false, [], ◌∷◌, Option, Some, None}
use Rattle.core_msgs.specs.declared.event.Event.{Event}
use Rattle.core_msgs.specs.declared.answer.Answer.{Answer}
use Rattle.run_record.specs.Answers.{Answers, step}
use Rattle.run_record.specs.Run.{History, conf, generation, under_way}
use Rattle.run_record.specs.Sessions.{peers_up}
use Rattle.cores_link.specs.declared.accepted.Accepted.{Accepted}

-- the generation that is under way
abbrev pub generation_if : Bool → ℕ → Option ℕ
generation_if true generation = Some generation
generation_if false generation = None

-- what is accepted is what the history says, and no session has come up yet
pub record AcceptedBy (a : Accepted) (h : History) : Type 0 where
  pub conf : a.conf ≡ conf h
  pub generation : a.generation ≡ generation h
  pub under_way : generation_if a.under_way a.generation ≡ under_way h
  pub nobody : peers_up h ≡ []

-- The event may be answered so, and what is accepted then follows from that answer, whatever the history was.
abbrev pub Follows : Accepted → Accepted → Event → Answer → Type 0
Follows old new event answer = (h : History) → AcceptedBy old h → Answers h event answer × AcceptedBy new (step event answer ∷ h)
