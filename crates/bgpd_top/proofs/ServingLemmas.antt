-- What serving has done so far, at its beginning, behind each event, and at its end.
use Rattle.std.proofs.Common.{◌≡◌, ℕ, List, [], ◌∷◌, ◌++◌, flat_map, fold, Option, None, Some, IfSome, Ok, Err, refl, sym, ap, ◌∙◌, append_assoc, append-nil}
use Rattle.std.specs.Io.KnownBytes.{append_known}
use Rattle.core_msgs.specs.declared.event.Event.{Event}
use Rattle.core_msgs.specs.declared.answer.Answer.{Answer}
use Rattle.core_msgs.specs.declared.answer.Line.{Line}
use Rattle.event_text.specs.Lines.{answer_text, ended_line}
use Rattle.run_record.specs.Run.{History}
use Rattle.cores_link.specs.declared.router.Router.{Router}
use Rattle.cores_link.specs.Routers.{Stands}
use Rattle.bgpd_top.specs.World.{Talk, Gave, Closed, Noted, Heard, said_by, end_behind}
use Rattle.bgpd_top.specs.Serving.{Turn, talk_of, transcript_of, with_line, with_answer, after, Served, ServedAll, failure_of}
use Rattle.bgpd_top.specs.ServeCauses.{EventServed, NotedBehind, AnswersNext, end_next, of_world}
use Rattle.bgpd_top.specs.declared.world.WorldEnd.{WorldEnd}
use Rattle.bgpd_top.specs.declared.world.WorldEnd.TheVariants.{Failed}
use Rattle.bgpd_top.specs.declared.world.WorldFault.{WorldFault}
use Rattle.bgpd_top.specs.declared.world.WorldFault.TheVariants as world
use Rattle.bgpd_top.specs.declared.serving.ServeFault.{ServeFault}
use Rattle.bgpd_top.specs.declared.serving.ServeFault.TheVariants as fault

pub append_none : (known : Option (List ℕ)) → known ≡ append_known known []
append_none None = refl
append_none (Some bytes) = ap Some (sym (append-nil bytes))

pub append_twice : (known : Option (List ℕ)) (a b : List ℕ) → append_known (append_known known a) b ≡ append_known known (a ++ b)
append_twice None a b = refl
append_twice (Some bytes) a b = ap Some (append_assoc bytes a b)

-- three pieces one behind the other
pub append_thrice : (known first second third : Option (List ℕ)) (a b c : List ℕ) → first ≡ append_known known a → second ≡ append_known first b →
    third ≡ append_known second c → third ≡ append_known known (a ++ (b ++ c))
append_thrice known first second third a b c x y z =
    z ∙ ap (λ k. append_known k c) (y ∙ ap (λ k. append_known k b) x ∙ append_twice known a b)
    ∙ append_twice known (a ++ b) c ∙ ap (append_known known) (append_assoc a b c)

pub transcript-lines : (talk : List Talk) (lines : List Line) → transcript_of (fold with_line talk lines) ≡ transcript_of talk ++ flat_map ended_line lines
transcript-lines talk [] = sym (append-nil (transcript_of talk))
transcript-lines talk (line ∷ lines) =
    transcript-lines (Heard line ∷ talk) lines ∙ append_assoc (transcript_of talk) (ended_line line) (flat_map ended_line lines)

-- the transcript of an answer that was handed over is its text
pub transcript-answer : (talk : List Talk) (answer : Answer) → transcript_of (with_answer talk answer) ≡ transcript_of talk ++ answer_text answer
transcript-answer talk answer =
    ap (λ front. front ++ ended_line answer.last) (transcript-lines talk answer.lines)
    ∙ append_assoc (transcript_of talk) (flat_map ended_line answer.lines) (ended_line answer.last)

-- nothing is served yet
pub served_none : {W : Type 0} (passes : W → Talk → W → Type 0) (before : History) (router : Router) (world : W) (written : Option (List ℕ)) →
    Stands router before → Served passes before router world world written written
served_none passes before router world written stands = record { turns = []; stands = stands; answered = tt; passed = refl; text = append_none written }

-- one event more is served
pub served_more : {W : Type 0} (passes : W → Talk → W → Type 0) (before : History) (router next : Router) (event : Event) (first now given later : W)
    (w w1 w2 w3 : Option (List ℕ)) → Served passes before router first now w w1 → NotedBehind passes now given w1 w2 (Gave event) →
    ((h : History) → Stands router h → EventServed passes h event next given later w2 w3) → Served passes before next first later w w3
served_more passes before router next event first now given later w w1 w2 w3 so_far came does =
    let h : History = after before so_far.turns in
    let one : EventServed passes h event next given later w2 w3 = does h so_far.stands in
    let turn : Turn = record { event = event; ahead = came.ahead; answer = one.answer } in
    let talk : List Talk = Noted came.ahead ∷ Gave event ∷ talk_of so_far.turns in
    record {
      turns = turn ∷ so_far.turns;
      stands = one.stands;
      answered = (one.answers, so_far.answered);
      passed = one.heard first talk (came.mid, (now, so_far.passed, came.passed), came.noted);
      text = one.text ∙ ap (λ known. append_known known (answer_text one.answer)) (came.text ∙ ap (λ known. append_known known came.ahead) so_far.text
          ∙ append_twice w (transcript_of (talk_of so_far.turns)) came.ahead)
          ∙ append_twice w (transcript_of talk) (answer_text one.answer) ∙ ap (append_known w) (sym (transcript-answer talk one.answer));
    }

-- the world gives no more
pub served_all : {W : Type 0} (passes : W → Talk → W → Type 0) (end : WorldEnd) (before : History) (router : Router) (first now last : W)
    (w w1 w2 : Option (List ℕ)) → Served passes before router first now w w1 → NotedBehind passes now last w1 w2 (Closed end) →
    ServedAll passes end before router first last w w2
served_all passes end before router first now last w w1 w2 so_far came = record {
  turns = so_far.turns;
  noted = came.ahead;
  stands = so_far.stands;
  answered = so_far.answered;
  passed = (came.mid, (now, so_far.passed, came.passed), came.noted);
  text = came.text ∙ ap (λ known. append_known known came.ahead) so_far.text ∙ append_twice w (transcript_of (talk_of so_far.turns)) came.ahead;
}

-- the world failed, or a write or memory did
pub served_failed : {W : Type 0} (passes : W → Talk → W → Type 0) (fault : ServeFault) (before : History) (router : Router) (first now last : W)
    (w w1 w2 : Option (List ℕ)) → Served passes before router first now w w1 → AnswersNext passes now last w1 w2 (Err fault) →
    IfSome (failure_of fault) (λ end. ServedAll passes end before router first last w w2)
served_failed passes (fault.BadEvent line) before router first now last w w1 w2 so_far came = served_all passes (Failed (world.BadEvent line)) before router first now last w w1 w2 so_far came
served_failed passes fault.ReadFault before router first now last w w1 w2 so_far came = served_all passes (Failed world.ReadFault) before router first now last w w1 w2 so_far came
served_failed passes fault.TooLong before router first now last w w1 w2 so_far came = served_all passes (Failed world.TooLong) before router first now last w w1 w2 so_far came
served_failed passes fault.WriteFault before router first now last w w1 w2 so_far came = tt
served_failed passes fault.NoMemory before router first now last w w1 w2 so_far came = tt

-- what the world answered is what is answered of it
pub answers_ok : {W : Type 0} (passes : W → Talk → W → Type 0) (answer : Option Event) (old new : W) (w w' : Option (List ℕ)) →
    NotedBehind passes old new w w' (said_by (Ok answer)) → AnswersNext passes old new w w' (Ok answer)
answers_ok passes None old new w w' came = came
answers_ok passes (Some event) old new w w' came = came

pub answers_err : {W : Type 0} (passes : W → Talk → W → Type 0) (cause : WorldFault) (old new : W) (w w' : Option (List ℕ)) →
    NotedBehind passes old new w w' (Closed (Failed cause)) → AnswersNext passes old new w w' (Err (of_world cause))
answers_err passes (world.BadEvent line) old new w w' came = came
answers_err passes world.ReadFault old new w w' came = came
answers_err passes world.TooLong old new w w' came = came
answers_err passes world.NoMemory old new w w' came = tt

pub end_ok : (answer : Option Event) (end : WorldEnd) → end ≡ end_behind (Ok answer) → IfSome (end_next (Ok answer)) (λ told. end ≡ told)
end_ok None end is = is
end_ok (Some event) end is = is

pub end_err : (cause : WorldFault) (end : WorldEnd) → end ≡ Failed cause → IfSome (failure_of (of_world cause)) (λ told. end ≡ told)
end_err (world.BadEvent line) end is = is
end_err world.ReadFault end is = is
end_err world.TooLong end is = is
end_err world.NoMemory end is = tt

-- what is noted is held behind what was held, and what was held may have been written
pub noted_behind : (o o' : Option (List ℕ)) (held held1 held2 ahead : List ℕ) → append_known o' held1 ≡ append_known o held → held2 ≡ held1 ++ ahead →
    append_known o' held2 ≡ append_known (append_known o held) ahead
noted_behind o o' held held1 held2 ahead flushed kept =
    ap (append_known o') kept ∙ sym (append_twice o' held1 ahead) ∙ ap (λ known. append_known known ahead) flushed
