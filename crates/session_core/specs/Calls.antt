-- The calls on the session core: why they are refused, and what they give otherwise.
use Rattle.std.specs.Prelude.{◌≡◌, ◌≢◌, ℕ, ◌+◌, nat_lt, Bool, true, false, if◌then◌else◌, List, [], ◌∷◌, ◌++◌, map, Option, Some, None, Result, Ok, Err, IfErr, IsTrue}
use Rattle.net_base.specs.declared.addr.Addr.{Addr}
use Rattle.net_base.specs.declared.conf.ConfFault.{ConfFault}
use Rattle.conf_tree.specs.declared.conf.Conf.{Conf}
use Rattle.conf_tree.specs.Language.{configuration_within, most_canonical_bytes}
use Rattle.reload_stage.specs.declared.item.StageItem.{StageItem}
use Rattle.reload_stage.specs.declared.item.StageItem.TheVariants.{Begin, Piece, Commit}
use Rattle.reload_stage.specs.Stages.{can_follow, nothing_taken, taken_then}
use Rattle.core_msgs.specs.declared.answer.Line.{Line}
use Rattle.core_msgs.specs.declared.answer.Line.TheVariants.{AppliedSession}
use Rattle.core_msgs.specs.declared.control.CtlCommand.{CtlCommand}
use Rattle.core_msgs.specs.declared.control.CtlCommand.TheVariants as ctl
use Rattle.core_msgs.specs.declared.frame.Done.{Done}
use Rattle.core_msgs.specs.declared.frame.Frame.{Frame}
use Rattle.core_msgs.specs.declared.frame.Frame.TheVariants as frames
use Rattle.core_msgs.specs.declared.parts.Core.{Core}
use Rattle.core_msgs.specs.declared.parts.Core.TheVariants.{Parent}
use Rattle.conf_shows.specs.Shown.{set_rows}
use Rattle.peer_session.specs.declared.refusal.SessionRefusal.{SessionRefusal}
use Rattle.peer_session.specs.declared.refusal.SessionRefusal.TheVariants as refusals
use Rattle.session_core.specs.declared.event.AllEvent.{AllEvent}
use Rattle.session_core.specs.declared.event.AllEvent.TheVariants.{Deadline}
use Rattle.session_core.specs.declared.event.PeerEvent.{PeerEvent}
use Rattle.session_core.specs.declared.event.PeerEvent.TheVariants as peer
use Rattle.session_core.specs.Sessions.{Sessions, live_peer, peer_at}
use Rattle.session_core.specs.Courses.{Courses, HandlesAt, at_neighbour, begun, for_all}
use Rattle.session_core.specs.Events.{CanHappen, happens, refusal_at}
use Rattle.session_core.specs.Numbers.{noted}
use Rattle.session_core.specs.Reloads.{plan_of, reloads}
use Rattle.session_core.specs.Shows.{couple_frames, neighbour_rows, rib_refusal, rows_refusal, summary_row, table_refusal}

-- A spent core refuses every call with that, before all else.
abbrev pub refused_by : Sessions → Option SessionRefusal → Option SessionRefusal
refused_by core why = if core.spent then Some refusals.Spent else why

-- A call that is refused leaves the core as it was. All others only memory can stop, which leaves the core spent.
abbrev pub Refuses : Option SessionRefusal → Sessions → Sessions → Result Done SessionRefusal → Type 0
Refuses (Some why) old new answer = (answer ≡ Err why) × (new ≡ old)
Refuses None old new answer = IfErr answer (λ why. (why ≡ refusals.NoMemory) × IsTrue new.spent)

-- The core behind a call, and what that reports and writes.
pub record Reply : Type 0 where
  pub core : Sessions
  pub lines : List Line
  pub frames : List (Core × Frame)

-- A call gives this.
abbrev pub Gives : Reply → Sessions → Done → Type 0
Gives reply new done = (new ≡ reply.core) × (done ≡ record { lines = reply.lines; frames = reply.frames })

-- the core as it is, which reports and writes nothing
abbrev pub still : Sessions → Reply
still core = record { core = core; lines = []; frames = [] }

-- What the neighbours did ends a call: the numbers of the sessions follow the frames.
abbrev pub ends_call : Sessions → Courses → Reply
ends_call core c = record { core = record core { neighbours = c.peers; live = noted c.frames core.live }; lines = c.lines; frames = c.frames }

-- Something happens to one neighbour.
abbrev pub event_reply : Addr → PeerEvent → Sessions → Reply
event_reply at event core = ends_call core (at_neighbour at (happens event core.moment) (begun core.neighbours))

-- The same to the neighbour of a session, if that is up.
abbrev pub event_found : Option Addr → PeerEvent → Sessions → Reply
event_found None event core = still core
event_found (Some at) event core = event_reply at event core

abbrev pub session_reply : ℕ → PeerEvent → Sessions → Reply
session_reply session event core = event_found (live_peer session core.live) event core

-- Something happens to all neighbours, by address.
abbrev pub all_reply : AllEvent → Sessions → Reply
all_reply event core = ends_call core (for_all (happens (peer.All event) core.moment) (begun core.neighbours))

-- Bytes come. A session that comes up has the number behind the last one.
pub record Hears (at : Addr) (piece : List ℕ) (old new : Sessions) (done : Done) : Type 0 where
  pub behind : Courses
  pub handles : HandlesAt at piece (old.live.last + 1) old.moment (begun old.neighbours) behind
  pub gives : Gives (ends_call old behind) new done

abbrev pub at_time : ℕ → Sessions → Sessions
at_time now core = record core { moment = now }

-- The time goes on.
abbrev pub time_reply : ℕ → Sessions → Reply
time_reply now core = all_reply Deadline (at_time now core)

abbrev pub time_refusal : ℕ → Sessions → Option SessionRefusal
time_refusal now core = if nat_lt now core.moment then Some (refusals.TimeBack core.moment) else None

-- what is reported and written once a configuration holds
abbrev pub applied : ℕ → Courses → Courses
applied generation c = record c { lines = c.lines ++ AppliedSession generation ∷ []; frames = c.frames ++ (Parent, frames.Ack generation) ∷ [] }

-- A configuration holds.
abbrev pub apply_reply : Conf → ℕ → Sessions → Reply
apply_reply conf generation core =
    ends_call (record core { conf = conf }) (applied generation (reloads (plan_of conf core.neighbours) core.moment (begun core.neighbours)))

-- An item of the next configuration is taken, if it can follow those before it.
abbrev pub item_reply : StageItem → Sessions → Reply
item_reply item core = still (if can_follow core.assembly item then record core { assembly = taken_then core.assembly item } else core)

-- nothing is taken of the next configuration
abbrev pub emptied : Sessions → Sessions
emptied core = record core { assembly = nothing_taken }

-- The text of the next configuration is whole, and read.
abbrev pub read_reply : Result Conf ConfFault → ℕ → Sessions → Reply
read_reply (Ok conf) generation core = apply_reply conf generation core
read_reply (Err fault) generation core = still core

abbrev pub commit_reply : ℕ → Sessions → Reply
commit_reply generation core =
    if can_follow core.assembly (Commit generation) then read_reply (configuration_within most_canonical_bytes core.assembly.text) generation (emptied core)
    else still core

-- A frame is taken. One of another kind is passed over.
abbrev pub frame_reply : Frame → Sessions → Reply
frame_reply (frames.Begin generation size) core = item_reply (Begin generation size) core
frame_reply (frames.Piece piece) core = item_reply (Piece piece) core
frame_reply (frames.Commit generation) core = commit_reply generation core
frame_reply (frames.Close session code sub held most) core = session_reply session (peer.Close held most) core
frame_reply (frames.Routes session family withdrawn announced) core = session_reply session (peer.Routes withdrawn announced) core
frame_reply frame core = still core

-- Routes have valid attributes, and prefixes of one family.
abbrev pub CanTake : Frame → Type 0
CanTake (frames.Routes session family withdrawn announced) = CanHappen (peer.Routes withdrawn announced)
CanTake _ = Unit {0}

-- the core as it is, with lines that it reports or frames that it writes
abbrev pub reports : List Line → Sessions → Reply
reports lines core = record { core = core; lines = lines; frames = [] }

abbrev pub writes : List (Core × Frame) → Sessions → Reply
writes frames core = record { core = core; lines = []; frames = frames }

-- why a control command is refused
abbrev pub command_refusal : CtlCommand → Sessions → Option SessionRefusal
command_refusal (ctl.ShowNeighbour at) core = rows_refusal at core.neighbours
command_refusal (ctl.ShowRib name) core = rib_refusal core.conf name
command_refusal (ctl.ShowFib table) core = table_refusal core.conf table
command_refusal (ctl.Couple table on) core = table_refusal core.conf table
command_refusal (ctl.Neighbour at action) core = refusal_at (peer.Operator action) (peer_at at core.neighbours)
command_refusal command core = None

-- what the session core answers to it by itself
abbrev pub answer_reply : CtlCommand → Sessions → Reply
answer_reply ctl.ShowSummary core = reports (map summary_row core.neighbours) core
answer_reply (ctl.ShowNeighbour at) core = reports (neighbour_rows at core.neighbours) core
answer_reply ctl.ShowSets core = reports (set_rows core.conf) core
answer_reply (ctl.Couple table on) core = writes (couple_frames core.conf table on) core
answer_reply command core = still core

abbrev pub command_reply : CtlCommand → Sessions → Reply
command_reply (ctl.Neighbour at action) core = event_reply at (peer.Operator action) core
command_reply command core = answer_reply command core

-- The numbers of the sessions follow the frames that were written. Only memory can stop that.
abbrev pub Notes : Done → Sessions → Sessions → Result Done SessionRefusal → Type 0
Notes done old new (Ok given) = (given ≡ done) × (new ≡ record old { live = noted done.frames old.live })
Notes done old new (Err why) = (why ≡ refusals.NoMemory) × IsTrue new.spent

-- A call is refused, for want of memory or for another reason.
pub record IsRefused (why : SessionRefusal) (old new : Sessions) (answer : Result Done SessionRefusal) : Type 0 where
  pub says : answer ≡ Err why
  pub memory : why ≡ refusals.NoMemory → IsTrue new.spent
  pub other : why ≢ refusals.NoMemory → new ≡ old

-- what a call comes to whose work came to this outcome
abbrev pub Finishes : Result (Unit {0}) SessionRefusal → Done → Sessions → Sessions → Result Done SessionRefusal → Type 0
Finishes (Ok _) done old new answer = Notes done old new answer
Finishes (Err why) done old new answer = IsRefused why old new answer

-- what only shows, or couples kernel tables
abbrev pub is_show : CtlCommand → Bool
is_show (ctl.Neighbour at action) = false
is_show command = true

-- What is reported and written stands behind what was.
abbrev pub Answers : Reply → Done → Done → Type 0
Answers reply old new = new ≡ record { lines = old.lines ++ reply.lines; frames = old.frames ++ reply.frames }
