-- Each status has its cause, also the one that is told.
use Rattle.std.proofs.Common.{ℕ, List, Option, None, Some, Result, Ok, Err, sym, subst, inl, inr}
use Rattle.event_text.specs.Grammar.{FileEvents}
use Rattle.bgpd_top.specs.Serving.{Ends, CountsServing}
use Rattle.bgpd_top.specs.Outside.{Outside}
use Rattle.bgpd_top.specs.Status.{IsToldOf}
use Rattle.bgpd_top.specs.Ending.{status_of, EndsReplay, Counts, CountsOf, Causes}
use Rattle.bgpd_top.specs.declared.program.Command.{Command}
use Rattle.bgpd_top.specs.declared.program.Command.TheVariants.{Help, Version, Replay, Check}
use Rattle.bgpd_top.specs.declared.serving.ServeFault.{ServeFault}
use Rattle.bgpd_top.specs.declared.serving.ServeFault.TheVariants as fault
use Rattle.net_base.specs.declared.conf.ConfFault.{ConfFault}
use Rattle.bgpd_top.specs.declared.status.Status.{Status}
use Rattle.bgpd_top.specs.declared.status.Status.TheVariants.{Done, Refused, Usage, BadEvent, ReadFault, WriteFault, NoMemory, TooLong}

pub replay_cause : (outcome : Result (Unit {0}) ServeFault) (events : Option FileEvents) (before after : Option (List ℕ)) →
    Ends events before after outcome → EndsReplay events (status_of outcome) before after
replay_cause (Ok done) events before after ends = ends
replay_cause (Err (fault.BadEvent line)) events before after ends = ends
replay_cause (Err fault.ReadFault) events before after ends = ends
replay_cause (Err fault.WriteFault) events before after ends = ends
replay_cause (Err fault.NoMemory) events before after ends = ends
replay_cause (Err fault.TooLong) events before after ends = ends

pub replay_counts : (outcome : Result (Unit {0}) ServeFault) (source source' sink sink' : ℕ) →
    CountsServing source source' sink sink' outcome → Counts (status_of outcome) source source' sink sink'
replay_counts (Ok done) source source' sink sink' counts = counts
replay_counts (Err (fault.BadEvent line)) source source' sink sink' counts = counts
replay_counts (Err fault.ReadFault) source source' sink sink' counts = counts
replay_counts (Err fault.WriteFault) source source' sink sink' counts = counts
replay_counts (Err fault.NoMemory) source source' sink sink' counts = counts
replay_counts (Err fault.TooLong) source source' sink sink' counts = counts

-- what holds of the status found, and of want of memory where a fault of the file was found, holds of the status told
told_keeps : (P : Status → Type 0) (found told : Status) → IsToldOf found told → P found →
    ((why : ConfFault) → P (Refused why) → P NoMemory) → P told
told_keeps P (Refused why) told (inl same) holds lacks = subst P (sym same) holds
told_keeps P (Refused why) told (inr same) holds lacks = subst P (sym same) (lacks why holds)
told_keeps P Done told same holds lacks = subst P (sym same) holds
told_keeps P Usage told same holds lacks = subst P (sym same) holds
told_keeps P (BadEvent line) told same holds lacks = subst P (sym same) holds
told_keeps P ReadFault told same holds lacks = subst P (sym same) holds
told_keeps P WriteFault told same holds lacks = subst P (sym same) holds
told_keeps P NoMemory told same holds lacks = subst P (sym same) holds
told_keeps P TooLong told same holds lacks = subst P (sym same) holds

no_memory_cause : (command : Option Command) (content : Option (List ℕ)) (old new : Outside) (why : ConfFault) →
    Causes command content (Refused why) old new → Causes command content NoMemory old new
no_memory_cause None content old new why cause = let never : ⊥ = cc in absurd never
no_memory_cause (Some Help) content old new why cause = absurd cause
no_memory_cause (Some Version) content old new why cause = absurd cause
no_memory_cause (Some Replay) content old new why cause = absurd cause
no_memory_cause (Some (Check verbose)) content old new why cause = cause.1

no_memory_counts : (command : Option Command) (old new : Outside) (why : ConfFault) → CountsOf command (Refused why) old new → CountsOf command NoMemory old new
no_memory_counts None old new why counts = counts
no_memory_counts (Some Help) old new why counts = counts
no_memory_counts (Some Version) old new why counts = counts
no_memory_counts (Some Replay) old new why counts = counts
no_memory_counts (Some (Check verbose)) old new why counts = counts

pub told_cause : (command : Option Command) (content : Option (List ℕ)) (old new : Outside) (found told : Status) → IsToldOf found told →
    Causes command content found old new → Causes command content told old new
told_cause command content old new found told is cause =
    told_keeps (λ status. Causes command content status old new) found told is cause (no_memory_cause command content old new)

pub told_counts : (command : Option Command) (old new : Outside) (found told : Status) → IsToldOf found told →
    CountsOf command found old new → CountsOf command told old new
told_counts command old new found told is counts =
    told_keeps (λ status. CountsOf command status old new) found told is counts (no_memory_counts command old new)
