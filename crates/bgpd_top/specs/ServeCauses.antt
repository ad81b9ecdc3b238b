-- What the parts of serving do, and how its faults come from below.
use Rattle.std.specs.Prelude.{◌≡◌, ◌≢◌, ◌⊎◌, ℕ, Bool, false, List, [], ◌∷◌, ◌++◌, Option, Some, None, option_map, IfSome, Result, Ok, Err}
use Rattle.std.specs.Io.KnownBytes.{append_known}
use Rattle.io_edge.specs.Faults.{Rose}
use Rattle.core_msgs.specs.declared.event.Event.{Event}
use Rattle.core_msgs.specs.declared.answer.Answer.{Answer}
use Rattle.event_text.specs.Lines.{answer_text}
use Rattle.run_record.specs.Run.{History}
use Rattle.run_record.specs.Answers.{Answers, step}
use Rattle.cores_link.specs.declared.router.Router.{Router}
use Rattle.cores_link.specs.Routers.{Stands}
use Rattle.bgpd_top.specs.World.{Talk, Gave, Closed, Noted, Passed}
use Rattle.bgpd_top.specs.Serving.{with_answer, failure_of}
use Rattle.bgpd_top.specs.declared.world.WorldEnd.{WorldEnd}
use Rattle.bgpd_top.specs.declared.world.WorldEnd.TheVariants.{Open, Ended}
use Rattle.bgpd_top.specs.declared.world.WorldFault.{WorldFault}
use Rattle.bgpd_top.specs.declared.world.WorldFault.TheVariants as world
use Rattle.bgpd_top.specs.declared.serving.ServeFault.{ServeFault}
use Rattle.bgpd_top.specs.declared.serving.ServeFault.TheVariants as fault

abbrev pub of_world : WorldFault → ServeFault
of_world (world.BadEvent line) = fault.BadEvent line
of_world world.ReadFault = fault.ReadFault
of_world world.TooLong = fault.TooLong
of_world world.NoMemory = fault.NoMemory

-- the event was answered behind the history, and its answer handed to the world and written
pub record EventServed {W : Type 0} (passes : W → Talk → W → Type 0) (before : History) (event : Event) (router : Router) (old new : W)
    (written written' : Option (List ℕ)) : Type 0 where
  pub answer : Answer
  pub answers : Answers before event answer
  pub stands : Stands router (step event answer ∷ before)
  pub heard : (first : W) (talk : List Talk) → Passed passes first talk old → Passed passes first (with_answer talk answer) new
  pub text : written' ≡ append_known written (answer_text answer)

-- this passed, and then the world noted some bytes, which were written
pub record NotedBehind {W : Type 0} (passes : W → Talk → W → Type 0) (old new : W) (written written' : Option (List ℕ)) (talk : Talk) : Type 0 where
  pub mid : W
  pub ahead : List ℕ
  pub passed : passes old talk mid
  pub noted : passes mid (Noted ahead) new
  pub text : written' ≡ append_known written ahead

-- what the world said, by what is answered of it
abbrev pub said_then : Result (Option Event) ServeFault → Option Talk
said_then (Ok (Some event)) = Some (Gave event)
said_then (Ok None) = Some (Closed Ended)
said_then (Err fault) = option_map Closed (failure_of fault)

abbrev pub AnswersNext : {W : Type 0} → (W → Talk → W → Type 0) → W → W → Option (List ℕ) → Option (List ℕ) → Result (Option Event) ServeFault → Type 0
AnswersNext passes old new written written' result = IfSome (said_then result) (NotedBehind passes old new written written')

-- whether the world then gives more
abbrev pub end_next : Result (Option Event) ServeFault → Option WorldEnd
end_next (Ok (Some event)) = Some Open
end_next (Ok None) = Some Ended
end_next (Err fault) = failure_of fault

-- the world noted some bytes, which are held behind the others
pub record Notes {W : Type 0} (passes : W → Talk → W → Type 0) (notes : Bool) (old new : W) (held held' : List ℕ) : Type 0 where
  pub ahead : List ℕ
  pub noted : passes old (Noted ahead) new
  pub kept : held' ≡ held ++ ahead
  pub mute : notes ≡ false → ahead ≡ []

-- a step fails for the sink or for memory alone
abbrev pub IsStepFault : ServeFault → Type 0
IsStepFault fault.WriteFault = Unit {0}
IsStepFault fault.NoMemory = Unit {0}
IsStepFault _ = ⊥

-- only a fault of the sink raises its count
abbrev pub CountsStep : ℕ → ℕ → Result (Unit {0}) ServeFault → Type 0
CountsStep old new (Err fault.WriteFault) = Rose old new
CountsStep old new _ = new ≡ old

-- what is held goes out at the end, and the answer stays; or a write fails
pub record Closes (served : Result (Unit {0}) ServeFault) (held : List ℕ) (written written' : Option (List ℕ)) (sink sink' : ℕ)
    (result : Result (Unit {0}) ServeFault) : Type 0 where
  pub same : result ≢ Err fault.WriteFault → (result ≡ served) × (written' ≡ append_known written held) × (sink' ≡ sink)
  pub lost : result ≡ Err fault.WriteFault → ((served ≡ Err fault.WriteFault) × (sink' ≡ sink)) ⊎ ((held ≢ []) × Rose sink sink')
