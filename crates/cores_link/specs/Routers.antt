-- The Router stands for a history: what it keeps is what the history says.
use Rattle.std.specs.Prelude.{◌≡◌, ℕ, ◌+◌, Bool, false, ◌∷◌, length, Option, Some, None}
use Rattle.core_msgs.specs.declared.event.Event.{Event}
use Rattle.core_msgs.specs.declared.answer.Answer.{Answer}
use Rattle.core_msgs.specs.declared.event.Event.TheVariants as event
use Rattle.core_msgs.specs.declared.parts.Part.TheVariants.{Reload}
use Rattle.run_record.specs.Run.{History}
use Rattle.run_record.specs.Answers.{Answers, step}
use Rattle.run_record.specs.Limits.{size, with_size}
use Rattle.cores_link.specs.declared.router.Router.{Router}
use Rattle.cores_link.specs.declared.router.Quiet.{Quiet}
use Rattle.cores_link.specs.declared.router.Quiet.TheVariants.{Yes, Pending}
use Rattle.cores_link.specs.Standing.{AcceptedBy}

-- how many events were taken
abbrev pub events_taken : Router → ℕ
events_taken r = r.events

-- whether memory ran out in a call
abbrev pub is_spent : Router → Bool
is_spent r = r.spent

-- what the Router keeps is what the history says
pub record Stands (r : Router) (h : History) : Type 0 where
  pub live : r.spent ≡ false
  pub accepted : AcceptedBy r.accepted h
  pub events : r.events ≡ length h
  pub size : r.size ≡ size h

-- the event may be answered so behind the history, and the Router then stands for the history followed by it
pub record StandsAfter (r : Router) (h : History) (event : Event) (answer : Answer) : Type 0 where
  pub answers : Answers h event answer
  pub stands : Stands r (step event answer ∷ h)

-- nothing changed but the counts of events and of their size
pub record OnlyCounts (old new : Router) (event : Event) : Type 0 where
  pub accepted : new.accepted ≡ old.accepted
  pub events : new.events ≡ old.events + 1
  pub size : new.size ≡ with_size old.size event
  pub spent : new.spent ≡ old.spent

-- the event is a reload
abbrev pub IsReload : Event → Type 0
IsReload (event.Reload text) = Unit {0}
IsReload _ = ⊥

-- what is left to do by what is under way
abbrev pub quiet_of : Option ℕ → Quiet
quiet_of None = Yes
quiet_of (Some generation) = Pending Reload
