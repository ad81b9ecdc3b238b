-- What a call that serves events has done.
use Rattle.std.specs.Prelude.{◌≡◌, ℕ, Bool, false, List, [], ◌∷◌, ◌++◌, fold, Option, Some, None, Result, Ok, Err}
use Rattle.std.specs.Io.KnownBytes.{append_known}
use Rattle.io_edge.specs.Faults.{Rose}
use Rattle.core_msgs.specs.declared.event.Event.{Event}
use Rattle.core_msgs.specs.declared.answer.Answer.{Answer}
use Rattle.core_msgs.specs.declared.answer.Line.{Line}
use Rattle.event_text.specs.Lines.{ended_line}
use Rattle.event_text.specs.Grammar.{FileEvents}
use Rattle.event_text.specs.Grammar as file
use Rattle.run_record.specs.Run.{History}
use Rattle.run_record.specs.Answers.{Answers, step}
use Rattle.cores_link.specs.declared.router.Router.{Router}
use Rattle.cores_link.specs.Routers.{Stands}
use Rattle.bgpd_top.specs.World.{Talk, Gave, Closed, Noted, Heard, Passed}
use Rattle.bgpd_top.specs.Transcript.{Transcribes, TranscribesFront}
use Rattle.bgpd_top.specs.declared.world.WorldEnd.{WorldEnd}
use Rattle.bgpd_top.specs.declared.world.WorldEnd.TheVariants.{Ended, Failed}
use Rattle.bgpd_top.specs.declared.world.WorldFault.TheVariants as world
use Rattle.bgpd_top.specs.declared.serving.ServeFault.{ServeFault}
use Rattle.bgpd_top.specs.declared.serving.ServeFault.TheVariants as fault

-- an event that was served: what the world noted behind it, and its answer
pub record Turn : Type 0 where
  pub event : Event
  pub ahead : List ℕ
  pub answer : Answer

-- the world is handed one line more
abbrev pub with_line : List Talk → Line → List Talk
with_line talk line = Heard line ∷ talk

-- the world is handed an answer, line by line
abbrev pub with_answer : List Talk → Answer → List Talk
with_answer talk answer = Heard answer.last ∷ fold with_line talk answer.lines

-- what passed with the world in some turns, the newest first
abbrev pub talk_of : List Turn → List Talk
talk_of [] = []
talk_of (turn ∷ before) = with_answer (Noted turn.ahead ∷ Gave turn.event ∷ talk_of before) turn.answer

-- the transcript of what passed: what was noted, and each line with its LF
abbrev pub transcript_of : List Talk → List ℕ
transcript_of [] = []
transcript_of (Gave event ∷ before) = transcript_of before
transcript_of (Closed end ∷ before) = transcript_of before
transcript_of (Noted bytes ∷ before) = transcript_of before ++ bytes
transcript_of (Heard line ∷ before) = transcript_of before ++ ended_line line

-- a history followed by some turns
abbrev pub after : History → List Turn → History
after before [] = before
after before (turn ∷ turns) = step turn.event turn.answer ∷ after before turns

-- each was answered as it may be behind those before it
abbrev pub AreAnswered : History → List Turn → Type 0
AreAnswered before [] = Unit {0}
AreAnswered before (turn ∷ turns) = Answers (after before turns) turn.event turn.answer × AreAnswered before turns

-- What a call did so far, for a history for which the Router stood when it began: turns passed with the world, the Router
-- stands for the history followed by them, and their transcript was written.
pub record Served {W : Type 0} (passes : W → Talk → W → Type 0) (before : History) (router : Router) (first last : W)
    (written written' : Option (List ℕ)) : Type 0 where
  pub turns : List Turn
  pub stands : Stands router (after before turns)
  pub answered : AreAnswered before turns
  pub passed : Passed passes first (talk_of turns) last
  pub text : written' ≡ append_known written (transcript_of (talk_of turns))

-- The same for a call behind which the world gives no more: with its end, and what it noted there.
pub record ServedAll {W : Type 0} (passes : W → Talk → W → Type 0) (end : WorldEnd) (before : History) (router : Router) (first last : W)
    (written written' : Option (List ℕ)) : Type 0 where
  pub turns : List Turn
  pub noted : List ℕ
  pub stands : Stands router (after before turns)
  pub answered : AreAnswered before turns
  pub passed : Passed passes first (Noted noted ∷ Closed end ∷ talk_of turns) last
  pub text : written' ≡ append_known written (transcript_of (Noted noted ∷ Closed end ∷ talk_of turns))

-- the end of the world that a fault tells
abbrev pub failure_of : ServeFault → Option WorldEnd
failure_of (fault.BadEvent line) = Some (Failed (world.BadEvent line))
failure_of fault.ReadFault = Some (Failed world.ReadFault)
failure_of fault.TooLong = Some (Failed world.TooLong)
failure_of fault.WriteFault = None
failure_of fault.NoMemory = None

-- the end of the world that an answer tells
abbrev pub end_told : Result (Unit {0}) ServeFault → Option WorldEnd
end_told (Ok _) = Some Ended
end_told (Err fault) = failure_of fault

-- A fault of the world or the sink is answered where its count rose, and at no other answer did one rise; but what a
-- world noted behind a fault of its own may be refused memory or a write.
abbrev pub CountsFaults : {T : Type 0} → Bool → ℕ → ℕ → ℕ → ℕ → Result T ServeFault → Type 0
CountsFaults notes world world' sink sink' (Err fault.ReadFault) = Rose world world' × (sink' ≡ sink)
CountsFaults notes world world' sink sink' (Err fault.WriteFault) = (notes ≡ false → world' ≡ world) × Rose sink sink'
CountsFaults notes world world' sink sink' (Err fault.NoMemory) = (notes ≡ false → world' ≡ world) × (sink' ≡ sink)
CountsFaults notes world world' sink sink' (Err fault.TooLong) = (world' ≡ world) × (sink' ≡ sink)
CountsFaults notes world world' sink sink' (Err (fault.BadEvent line)) = (world' ≡ world) × (sink' ≡ sink)
CountsFaults notes world world' sink sink' (Ok _) = (world' ≡ world) × (sink' ≡ sink)

-- what stands written behind each way to end, of the events of a file
abbrev pub Ends : Option FileEvents → Option (List ℕ) → Option (List ℕ) → Result (Unit {0}) ServeFault → Type 0
Ends events before after (Ok _) = Transcribes file.Ended events before after
Ends events before after (Err (fault.BadEvent line)) = Transcribes (file.BadEvent line) events before after
Ends events before after (Err fault.TooLong) = Transcribes file.TooLong events before after
Ends events before after (Err fault.ReadFault) = TranscribesFront events before after
Ends events before after (Err fault.WriteFault) = Unit {0}
Ends events before after (Err fault.NoMemory) = Unit {0}

-- a fault of the source or the sink is answered where its count rose, and at no other answer did one rise
abbrev pub CountsServing : ℕ → ℕ → ℕ → ℕ → Result (Unit {0}) ServeFault → Type 0
CountsServing source source' sink sink' (Err fault.ReadFault) = Rose source source' × (sink' ≡ sink)
CountsServing source source' sink sink' (Err fault.WriteFault) = Rose sink sink' × (source' ≡ source)
CountsServing source source' sink sink' _ = (source' ≡ source) × (sink' ≡ sink)
