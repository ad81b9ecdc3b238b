-- What each way to end says of each command.
use Rattle.std.specs.Prelude.{◌≡◌, ℕ, List, Option, None, Some, option_map, Result, Ok, Err}
use Rattle.std.specs.Io.KnownBytes.{append_known}
use Rattle.io_edge.specs.Faults.{Rose}
use Rattle.event_text.specs.Grammar.{FileEvents}
use Rattle.event_text.specs.Grammar as file
use Rattle.bgpd_top.specs.Ahead.{events_of_file}
use Rattle.bgpd_top.specs.Checking.{EndsCheck}
use Rattle.bgpd_top.specs.Outside.{Outside, ErrorOutput}
use Rattle.bgpd_top.specs.Status.{status_code, ToldAs}
use Rattle.bgpd_top.specs.Transcript.{Transcribes, TranscribesFront}
use Rattle.bgpd_top.specs.Words.{help_text, version_text}
use Rattle.bgpd_top.specs.declared.program.Command.{Command}
use Rattle.bgpd_top.specs.declared.program.Command.TheVariants.{Help, Version, Replay, Check}
use Rattle.bgpd_top.specs.declared.serving.ServeFault.{ServeFault}
use Rattle.bgpd_top.specs.declared.serving.ServeFault.TheVariants as fault
use Rattle.bgpd_top.specs.declared.status.Status.{Status}
use Rattle.bgpd_top.specs.declared.status.Status.TheVariants.{Done, Usage, BadEvent, ReadFault, WriteFault, NoMemory, TooLong}

-- the status of each way to end the serving of events
abbrev pub status_of : Result (Unit {0}) ServeFault → Status
status_of (Ok _) = Done
status_of (Err (fault.BadEvent line)) = BadEvent line
status_of (Err fault.ReadFault) = ReadFault
status_of (Err fault.WriteFault) = WriteFault
status_of (Err fault.NoMemory) = NoMemory
status_of (Err fault.TooLong) = TooLong

-- A text was printed, or standard output failed.
abbrev pub EndsPrint : List ℕ → Status → Option (List ℕ) → Option (List ℕ) → Type 0
EndsPrint text Done before after = after ≡ append_known before text
EndsPrint text WriteFault before after = Unit {0}
EndsPrint text _ before after = ⊥

-- What stands on standard output is the transcript of all events of the file, of those before a bad line or before a
-- limit, or of the first ones where standard input failed.
abbrev pub EndsReplay : Option FileEvents → Status → Option (List ℕ) → Option (List ℕ) → Type 0
EndsReplay events Done before after = Transcribes file.Ended events before after
EndsReplay events (BadEvent line) before after = Transcribes (file.BadEvent line) events before after
EndsReplay events TooLong before after = Transcribes file.TooLong events before after
EndsReplay events ReadFault before after = TranscribesFront events before after
EndsReplay events WriteFault before after = Unit {0}
EndsReplay events NoMemory before after = Unit {0}
EndsReplay events _ before after = ⊥

-- what the command and its status say of standard output, over the content of the file named
abbrev pub Causes : Option Command → Option (List ℕ) → Status → Outside → Outside → Type 0
Causes None content status old new = (status ≡ Usage) × (new ≡ old)
Causes (Some Help) content status old new = EndsPrint help_text status old.written new.written
Causes (Some Version) content status old new = EndsPrint version_text status old.written new.written
Causes (Some Replay) content status old new = EndsReplay (option_map events_of_file old.left) status old.written new.written
Causes (Some (Check verbose)) content status old new = EndsCheck verbose content status old.written new.written

-- A read or a write failed where the count of faults rose, and at no other status did one rise.
abbrev pub Counts : Status → ℕ → ℕ → ℕ → ℕ → Type 0
Counts ReadFault reads reads' writes writes' = Rose reads reads' × (writes' ≡ writes)
Counts WriteFault reads reads' writes writes' = Rose writes writes' × (reads' ≡ reads)
Counts _ reads reads' writes writes' = (reads' ≡ reads) × (writes' ≡ writes)

-- the counts of what the command reads from and writes to
abbrev pub CountsOf : Option Command → Status → Outside → Outside → Type 0
CountsOf (Some Replay) status old new = Counts status old.of_input new.of_input old.of_output new.of_output
CountsOf _ status old new = Counts status old.of_files new.of_files old.of_output new.of_output

-- The program ended with this code: it is that of a status that has its cause, and that was told.
pub record EndsBy (command : Option Command) (name : List ℕ) (content : Option (List ℕ)) (code : ℕ)
    (old new : Outside) (told told' : ErrorOutput) : Type 0 where
  pub status : Status
  pub is : code ≡ status_code status
  pub cause : Causes command content status old new
  pub counts : CountsOf command status old new
  pub tells : ToldAs name status told told'

-- the command reads no file, and the command reads nothing from standard input
abbrev pub ReadsNoFile : Option Command → Type 0
ReadsNoFile (Some (Check verbose)) = ⊥
ReadsNoFile _ = Unit {0}

abbrev pub ReadsNoInput : Option Command → Type 0
ReadsNoInput (Some Replay) = ⊥
ReadsNoInput _ = Unit {0}
