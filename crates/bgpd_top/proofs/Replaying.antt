-- What was served of the world of an event file is the transcript of the file's events.
use Rattle.std.proofs.Common.{◌≡◌, ℕ, false, List, [], ◌∷◌, ◌++◌, fold, Option, None, Some, option_map, IfSome, Result, Ok, Err, refl, sym, ap, ◌∙◌, append_assoc, append-nil}
use Rattle.std.specs.Io.KnownBytes.{append_known}
use Rattle.core_msgs.specs.declared.event.Event.{Event}
use Rattle.core_msgs.specs.declared.answer.Line.{Line}
use Rattle.event_text.specs.Grammar.{FileEnd, FileEvents, no_more, with_event}
use Rattle.event_text.specs.Grammar as file
use Rattle.event_text.specs.Lines.{answer_text}
use Rattle.run_record.specs.Answers.{IsRun}
use Rattle.cores_link.specs.declared.router.Router.{Router}
use Rattle.bgpd_top.specs.World.{Talk, Gave, Closed, Noted, Heard, Passed}
use Rattle.bgpd_top.specs.Transcript.{events_of, text_of, with_events, Transcribes, TranscribesFront}
use Rattle.bgpd_top.specs.Serving.{Turn, talk_of, transcript_of, with_line, after, AreAnswered, ServedAll, end_told, Ends, CountsFaults, CountsServing}
use Rattle.bgpd_top.specs.ReplayWorlds.{PassesFile, EndsSo}
use Rattle.bgpd_top.proofs.ServingLemmas.{transcript-answer}
use Rattle.bgpd_top.specs.declared.world.WorldEnd.{WorldEnd}
use Rattle.bgpd_top.specs.declared.world.WorldEnd.TheVariants.{Ended, Failed}
use Rattle.bgpd_top.specs.declared.world.WorldFault.TheVariants as world
use Rattle.bgpd_top.specs.declared.serving.ServeFault.{ServeFault}
use Rattle.bgpd_top.specs.declared.serving.ServeFault.TheVariants as fault

-- what passes with a world, by the events that it has still to give
abbrev pub by : {W : Type 0} → (W → Option FileEvents) → W → Talk → W → Type 0
by come old talk new = PassesFile (come old) talk (come new)

events_none : (file : Option FileEvents) → file ≡ option_map (with_events []) file
events_none None = refl
events_none (Some all) = refl

events_more : (events : List Event) (event : Event) (now : Option FileEvents) →
    option_map (with_events events) (option_map (with_event event) now) ≡ option_map (with_events (events ++ event ∷ [])) now
events_more events event None = refl
events_more events event (Some rest) = ap (λ all. Some (record { events = all; end = rest.end })) (sym (append_assoc events (event ∷ []) rest.events))

-- lines that the world is handed change nothing of what is to come
lines_pass : {W : Type 0} (come : W → Option FileEvents) (lines : List Line) (talk : List Talk) (first last : W) →
    Passed (by come) first (fold with_line talk lines) last → (mid : W) × Passed (by come) first talk mid × (come mid ≡ come last)
lines_pass come [] talk first last passed = (last, passed, refl)
lines_pass come (line ∷ lines) talk first last passed =
    let rest = lines_pass come lines (Heard line ∷ talk) first last passed in
    (rest.1.0, rest.1.1, rest.1.2 ∙ rest.2)

-- some turns: the events before them are theirs and those behind, and nothing was noted
turns_pass : {W : Type 0} (come : W → Option FileEvents) (turns : List Turn) (first last : W) → Passed (by come) first (talk_of turns) last →
    (come first ≡ option_map (with_events (events_of (after [] turns))) (come last)) × (transcript_of (talk_of turns) ≡ text_of (after [] turns))
turns_pass come [] first last passed = (ap come passed ∙ events_none (come last), refl)
turns_pass come (turn ∷ turns) first last passed =
    let talk : List Talk = talk_of turns in
    let told = lines_pass come turn.answer.lines (Noted turn.ahead ∷ Gave turn.event ∷ talk) first passed.0 passed.1 in
    let note = told.1 in
    let gave = note.1 in
    let so_far = turns_pass come turns first gave.0 gave.1 in
    let rest : come note.0 ≡ come last = note.2.1 ∙ told.2 ∙ passed.2 in (
      so_far.0 ∙ ap (option_map (with_events (events_of (after [] turns)))) (gave.2 ∙ ap (option_map (with_event turn.event)) rest)
          ∙ events_more (events_of (after [] turns)) turn.event (come last),
      transcript-answer (Noted turn.ahead ∷ Gave turn.event ∷ talk) turn.answer
          ∙ ap (λ bytes. (transcript_of talk ++ bytes) ++ answer_text turn.answer) note.2.0
          ∙ ap (λ bytes. bytes ++ answer_text turn.answer) (append-nil (transcript_of talk) ∙ so_far.1),
    )

run_of : (turns : List Turn) → AreAnswered [] turns → IsRun (after [] turns)
run_of [] answered = tt
run_of (turn ∷ turns) answered = (answered.0, run_of turns answered.1)

ends_at : (end : FileEnd) (events : List Event) (now : Option FileEvents) → IfSome now (λ all. all ≡ no_more end) →
    IfSome (option_map (with_events events) now) (λ all. all ≡ record { events = events; end = end })
ends_at end events None h = tt
ends_at end events (Some rest) h = ap (with_events events) h ∙ ap (λ all. record { events = all; end = end }) (append-nil events)

front_at : (events : List Event) (now : Option FileEvents) → IfSome (option_map (with_events events) now) (λ all. (rest : List Event) × (all.events ≡ events ++ rest))
front_at events None = tt
front_at events (Some rest) = (rest.events, refl)

-- the transcript of all turns, where nothing was noted at the end
text_at : (turns : List Turn) (end : WorldEnd) (noted : List ℕ) (w w' : Option (List ℕ)) → noted ≡ [] → transcript_of (talk_of turns) ≡ text_of (after [] turns) →
    w' ≡ append_known w (transcript_of (Noted noted ∷ Closed end ∷ talk_of turns)) → w' ≡ append_known w (text_of (after [] turns))
text_at turns end noted w w' none text written =
    written ∙ ap (append_known w) (ap (λ bytes. transcript_of (talk_of turns) ++ bytes) none ∙ append-nil (transcript_of (talk_of turns)) ∙ text)

transcribed : {W : Type 0} (come : W → Option FileEvents) (end : WorldEnd) (how : FileEnd) (router : Router) (first last : W) (w w' : Option (List ℕ)) →
    ((now : Option FileEvents) → EndsSo now end → IfSome now (λ all. all ≡ no_more how)) →
    ServedAll (by come) end [] router first last w w' → Transcribes how (come first) w w'
transcribed come end how router first last w w' so served =
    let note = served.passed in
    let closed = note.1 in
    let turned = turns_pass come served.turns first closed.0 closed.1 in
    record {
      history = after [] served.turns;
      run = run_of served.turns served.answered;
      events = rw turned.0 (ends_at how (events_of (after [] served.turns)) (come closed.0) (so (come closed.0) closed.2));
      text = text_at served.turns end served.noted w w' note.2.0 turned.1 served.text;
    }

transcribed_front : {W : Type 0} (come : W → Option FileEvents) (end : WorldEnd) (router : Router) (first last : W) (w w' : Option (List ℕ)) →
    ServedAll (by come) end [] router first last w w' → TranscribesFront (come first) w w'
transcribed_front come end router first last w w' served =
    let note = served.passed in
    let closed = note.1 in
    let turned = turns_pass come served.turns first closed.0 closed.1 in
    record {
      history = after [] served.turns;
      run = run_of served.turns served.answered;
      events = rw turned.0 (front_at (events_of (after [] served.turns)) (come closed.0));
      text = text_at served.turns end served.noted w w' note.2.0 turned.1 served.text;
    }

-- what serving says of a world of an event file is what stands written of the file
pub replayed : {W : Type 0} (come : W → Option FileEvents) (outcome : Result (Unit {0}) ServeFault) (router : Router) (first last : W) (w w' : Option (List ℕ)) →
    IfSome (end_told outcome) (λ end. ServedAll (by come) end [] router first last w w') → Ends (come first) w w' outcome
replayed come (Ok done) router first last w w' served = transcribed come Ended file.Ended router first last w w' (λ now so. so) served
replayed come (Err (fault.BadEvent line)) router first last w w' served = transcribed come (Failed (world.BadEvent line)) (file.BadEvent line) router first last w w' (λ now so. so) served
replayed come (Err fault.TooLong) router first last w w' served = transcribed come (Failed world.TooLong) file.TooLong router first last w w' (λ now so. so) served
replayed come (Err fault.ReadFault) router first last w w' served = transcribed_front come (Failed world.ReadFault) router first last w w' served
replayed come (Err fault.WriteFault) router first last w w' served = tt
replayed come (Err fault.NoMemory) router first last w w' served = tt

-- a world that notes nothing
pub counts_mute : (outcome : Result (Unit {0}) ServeFault) (source source' sink sink' : ℕ) → CountsFaults false source source' sink sink' outcome →
    CountsServing source source' sink sink' outcome
counts_mute (Ok done) source source' sink sink' counts = counts
counts_mute (Err (fault.BadEvent line)) source source' sink sink' counts = counts
counts_mute (Err fault.TooLong) source source' sink sink' counts = counts
counts_mute (Err fault.ReadFault) source source' sink sink' counts = counts
counts_mute (Err fault.WriteFault) source source' sink sink' counts = (counts.1, counts.0 refl)
counts_mute (Err fault.NoMemory) source source' sink sink' counts = (counts.0 refl, counts.1)
