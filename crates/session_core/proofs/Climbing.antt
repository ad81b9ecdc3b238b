-- The sessions that come up have the numbers 1, 2, 3, .., each once.
use Rattle.std.proofs.Common.{◌≡◌, ◌≤◌, ◌⊎◌, ◌∙◌, ℕ, ◌+◌, Bool, true, false, not, cond, List, [], ◌∷◌, ◌++◌, append-nil, map, filter, Option, Some, None, Result, Ok, Err, inl, inr, refl, sym, ap, arith}
use Rattle.std.proofs.lemmas.List.FromFn.{map-range_with_len_more}
use Rattle.std.specs.List.{range_with_len}
use Rattle.std.specs.Map.{keys_of}
use Rattle.net_base.specs.declared.addr.Addr.{Addr}
use Rattle.net_base.specs.declared.conf.ConfFault.{ConfFault}
use Rattle.conf_tree.specs.declared.conf.Conf.{Conf}
use Rattle.conf_tree.specs.Language.{configuration_within, most_canonical_bytes}
use Rattle.conf_shows.specs.Shown.{all_couple_frames, couple_frame, has_table}
use Rattle.core_msgs.specs.declared.control.CtlCommand.{CtlCommand}
use Rattle.core_msgs.specs.declared.control.CtlCommand.TheVariants as ctl
use Rattle.core_msgs.specs.declared.control.SessionAction.{SessionAction}
use Rattle.core_msgs.specs.declared.control.SessionAction.TheVariants.{Up, Down, Clear, Refresh}
use Rattle.core_msgs.specs.declared.frame.Done.{Done}
use Rattle.core_msgs.specs.declared.frame.Frame.{Frame}
use Rattle.core_msgs.specs.declared.frame.Frame.TheVariants as frames
use Rattle.core_msgs.specs.declared.parts.Core.{Core}
use Rattle.core_msgs.specs.declared.parts.Core.TheVariants.{Parent}
use Rattle.reload_stage.specs.declared.item.StageItem.TheVariants.{Commit}
use Rattle.reload_stage.specs.Stages.{can_follow}
use Rattle.peer_session.specs.declared.neighbour.Settings.{Settings}
use Rattle.peer_session.specs.Calls.{fresh}
use Rattle.peer_session.specs.Frames.{ups}
use Rattle.peer_session.specs.Neighbour.{Course, Neighbour}
use Rattle.peer_session.specs.Steps.{feeds}
use Rattle.peer_session.proofs.Coming.{configures_quiet, handles_ups, quiet_more, routes_quiet, takes_quiet, ups_more, writes_quiet}
use Rattle.session_core.specs.declared.event.AllEvent.{AllEvent}
use Rattle.session_core.specs.declared.event.AllEvent.TheVariants.{Deadline, Stop}
use Rattle.session_core.specs.declared.event.PeerEvent.{PeerEvent}
use Rattle.session_core.specs.declared.event.PeerEvent.TheVariants as peer
use Rattle.session_core.specs.Calls.{Gives, Hears, Reply, all_reply, apply_reply, command_reply, commit_reply, emptied, event_found, event_reply, frame_reply, read_reply, still}
use Rattle.session_core.specs.Courses.{Courses, at_found, at_neighbour, begun, course_of, in_turn}
use Rattle.session_core.specs.Events.{happens}
use Rattle.session_core.specs.History.{Call, DoesCall, History, Opened, Lost, Heard, Told, Wrote, Stalled, Took, Applied, Commanded, Stopped, Stands, Step, written}
use Rattle.session_core.specs.Numbers.{noted, noted_frame}
use Rattle.session_core.specs.Reloads.{Plan, changes, changes_found, plan_of, reloads, same_rules}
use Rattle.session_core.specs.Told.{most_ups}
use Rattle.session_core.specs.Sessions.{Live, Sessions, live_peer, peer_at}
use Rattle.session_core.specs.Shows.{couple_frames}
use Rattle.session_core.proofs.Numbering.{call_keeps}

-- ---- but for bytes no call brings a session up

operates_quiet : (action : SessionAction) (now : ℕ) (c : Course) → ups (happens (peer.Operator action) now c).frames ≡ ups c.frames
operates_quiet Up now c = takes_quiet _ _ now c
operates_quiet Down now c = takes_quiet _ _ now c
operates_quiet Clear now c = takes_quiet _ _ now c
operates_quiet Refresh now c = refl

all_quiet : (event : AllEvent) (now : ℕ) (c : Course) → ups (happens (peer.All event) now c).frames ≡ ups c.frames
all_quiet Deadline now c = takes_quiet _ _ now c
all_quiet Stop now c = takes_quiet _ _ now c

happens_quiet : (event : PeerEvent) (now : ℕ) (c : Course) → ups (happens event now c).frames ≡ ups c.frames
happens_quiet peer.Opened now c = takes_quiet _ _ now c
happens_quiet peer.Lost now c = takes_quiet _ _ now c
happens_quiet (peer.All event) now c = all_quiet event now c
happens_quiet (peer.Write most) now c = writes_quiet most c
happens_quiet (peer.Stall stalled) now c = refl
happens_quiet (peer.Operator action) now c = operates_quiet action now c
happens_quiet (peer.Close held most) now c = takes_quiet _ _ now c
happens_quiet (peer.Routes withdrawn announced) now c = routes_quiet withdrawn announced c

abbrev IsSilent : (Course → Course) → Type 0
IsSilent f = (c : Course) → ups (f c).frames ≡ ups c.frames

at_quiet : (at : Addr) (f : Course → Course) → IsSilent f → (c : Courses) → ups (at_neighbour at f c).frames ≡ ups c.frames
at_quiet at f silent c = go (peer_at at c.peers)
  where
    go : (o : Option Neighbour) → ups (at_found at f o c).frames ≡ ups c.frames
    go None = refl
    go (Some n) = silent (course_of n c)

turn_quiet : (f : Course → Course) → IsSilent f → (addresses : List Addr) (c : Courses) → ups (in_turn f addresses c).frames ≡ ups c.frames
turn_quiet f silent [] c = refl
turn_quiet f silent (at ∷ addresses) c = turn_quiet f silent addresses (at_neighbour at f c) ∙ at_quiet at f silent c

changes_quiet : (now : ℕ) (c : Courses) (change : Addr × Option Settings) → ups (changes now c change).frames ≡ ups c.frames
changes_quiet now c change = go change.1 (peer_at change.0 c.peers)
  where
    go : (wanted : Option Settings) (o : Option Neighbour) → ups (changes_found change.0 wanted now o c).frames ≡ ups c.frames
    go (Some settings) (Some n) = configures_quiet (not (same_rules n.settings.rules settings.rules)) settings now (course_of n c)
    go (Some settings) None = takes_quiet _ _ now (course_of (fresh change.0 settings) c)
    go None (Some n) = takes_quiet _ _ now (course_of n c)
    go None None = refl

reloads_quiet : (plan : Plan) (now : ℕ) (c : Courses) → ups (reloads plan now c).frames ≡ ups c.frames
reloads_quiet [] now c = refl
reloads_quiet (change ∷ plan) now c = reloads_quiet plan now (changes now c change) ∙ changes_quiet now c change

abbrev IsQuiet : Reply → Type 0
IsQuiet reply = ups reply.frames ≡ []

event_is : (at : Addr) (event : PeerEvent) (core : Sessions) → IsQuiet (event_reply at event core)
event_is at event core = at_quiet at (happens event core.moment) (happens_quiet event core.moment) (begun core.neighbours)

all_is : (event : AllEvent) (core : Sessions) → IsQuiet (all_reply event core)
all_is event core = turn_quiet (happens (peer.All event) core.moment) (all_quiet event core.moment) (keys_of core.neighbours) (begun core.neighbours)

apply_is : (conf : Conf) (generation : ℕ) (core : Sessions) → IsQuiet (apply_reply conf generation core)
apply_is conf generation core =
    let plan = plan_of conf core.neighbours in
    quiet_more (reloads plan core.moment (begun core.neighbours)).frames ((Parent, frames.Ack generation) ∷ []) refl
    ∙ reloads_quiet plan core.moment (begun core.neighbours)

found_is : (o : Option Addr) (event : PeerEvent) (core : Sessions) → IsQuiet (event_found o event core)
found_is None event core = refl
found_is (Some at) event core = event_is at event core

read_is : (said : Result Conf ConfFault) (generation : ℕ) (core : Sessions) → IsQuiet (read_reply said generation core)
read_is (Ok conf) generation core = apply_is conf generation core
read_is (Err fault) generation core = refl

commit_is : (generation : ℕ) (core : Sessions) → IsQuiet (commit_reply generation core)
commit_is generation core = go (can_follow core.assembly (Commit generation))
  where
    go : (b : Bool) → IsQuiet (cond b (read_reply (configuration_within most_canonical_bytes core.assembly.text) generation (emptied core)) (still core))
    go true = read_is (configuration_within most_canonical_bytes core.assembly.text) generation (emptied core)
    go false = refl

frame_is : (frame : Frame) (core : Sessions) → IsQuiet (frame_reply frame core)
frame_is (frames.Begin generation size) core = refl
frame_is (frames.Piece piece) core = refl
frame_is (frames.Commit generation) core = commit_is generation core
frame_is (frames.Close session code sub held most) core = found_is (live_peer session core.live) (peer.Close held most) core
frame_is (frames.Routes session family withdrawn announced) core = found_is (live_peer session core.live) (peer.Routes withdrawn announced) core
frame_is (frames.Ack generation) core = refl
frame_is (frames.Up session at asn id agreed) core = refl
frame_is (frames.Down session) core = refl
frame_is (frames.Credit session messages) core = refl
frame_is (frames.Refresh session family) core = refl
frame_is (frames.Track hop) core = refl
frame_is (frames.Untrack hop) core = refl
frame_is (frames.Nexthop hop valid) core = refl
frame_is (frames.FibSet table prefix hop) core = refl
frame_is (frames.FibDel table prefix) core = refl
frame_is (frames.Couple table on) core = refl
frame_is (frames.CtlWords words) core = refl
frame_is (frames.CtlText text) core = refl
frame_is (frames.CtlEnd status) core = refl

coupled : (on : Bool) (tables : List ℕ) → ups (map (couple_frame on) tables) ≡ []
coupled on [] = refl
coupled on (table ∷ tables) = coupled on tables

all_coupled : (conf : Conf) (on : Bool) → ups (all_couple_frames conf on) ≡ []
unfolding all_couple_frames
all_coupled conf on = coupled on (filter (has_table conf) (range_with_len 0 256))

couple_is : (conf : Conf) (table : Option ℕ) (on : Bool) → ups (couple_frames conf table on) ≡ []
couple_is conf None on = all_coupled conf on
couple_is conf (Some table) on = refl

command_is : (command : CtlCommand) (core : Sessions) → IsQuiet (command_reply command core)
command_is ctl.ShowSummary core = refl
command_is (ctl.ShowNeighbour at) core = refl
command_is ctl.ShowSets core = refl
command_is ctl.ShowTables core = refl
command_is (ctl.ShowRib name) core = refl
command_is ctl.ShowRibIn core = refl
command_is ctl.ShowRibOut core = refl
command_is ctl.ShowRibMemory core = refl
command_is (ctl.ShowFib table) core = refl
command_is ctl.ShowNexthop core = refl
command_is (ctl.Couple table on) core = couple_is core.conf table on
command_is (ctl.Neighbour at action) core = event_is at (peer.Operator action) core

-- ---- a call brings up no session, or the next one

abbrev Ups : Sessions → Done → Type 0
Ups old done = (ups done.frames ≡ []) ⊎ (ups done.frames ≡ (old.live.last + 1) ∷ [])

quiet_given : (reply : Reply) (new : Sessions) (done : Done) → IsQuiet reply → Gives reply new done → ups done.frames ≡ []
quiet_given reply new done quiet gives = ap (λ (d : Done). ups d.frames) gives.1 ∙ quiet

given : (reply : Reply) (old new : Sessions) (done : Done) → IsQuiet reply → Gives reply new done → Ups old done
given reply old new done quiet gives = inl (quiet_given reply new done quiet gives)

heard : (at : Addr) (piece : List ℕ) (old new : Sessions) (done : Done) → Hears at piece old new done → Ups old done
heard at piece old new done h = go (handles_ups (old.live.last + 1) old.moment (feeds piece (course_of h.handles.neighbour (begun old.neighbours))) h.handles.behind h.handles.handles)
  where
    same : ups done.frames ≡ ups h.handles.behind.frames
    same = ap (λ (d : Done). ups d.frames) h.gives.1 ∙ ap (λ (c : Courses). ups c.frames) h.handles.gives

    go : (ups h.handles.behind.frames ≡ []) ⊎ (ups h.handles.behind.frames ≡ (old.live.last + 1) ∷ []) → Ups old done
    go (inl none) = inl (same ∙ none)
    go (inr one) = inr (same ∙ one)

call_ups : (call : Call) (old new : Sessions) (done : Done) → DoesCall call old new done → Ups old done
call_ups (Opened at) old new done does = given _ old new done (event_is at peer.Opened old) does
call_ups (Lost at) old new done does = given _ old new done (event_is at peer.Lost old) does
call_ups (Heard at piece) old new done does = heard at piece old new done does
call_ups (Told now) old new done does = given _ old new done (all_is Deadline (record old { moment = now })) does
call_ups (Wrote at most) old new done does = given _ old new done (event_is at (peer.Write most) old) does
call_ups (Stalled at stalled) old new done does = given _ old new done (event_is at (peer.Stall stalled) old) does
call_ups (Took frame) old new done does = given _ old new done (frame_is frame old) does
call_ups (Applied conf generation) old new done does = given _ old new done (apply_is conf generation old) does
call_ups (Commanded command) old new done does = given _ old new done (command_is command old) does
call_ups Stopped old new done does = given _ old new done (all_is Stop old) does

-- ---- the last number

abbrev last_of : ℕ → List ℕ → ℕ
last_of last [] = last
last_of last (n ∷ ns) = last_of n ns

noted_last : (written : List (Core × Frame)) (live : Live) → (noted written live).last ≡ last_of live.last (ups written)
noted_last [] live = refl
noted_last ((core, frames.Up session at asn id agreed) ∷ more) live = noted_last more (noted_frame (frames.Up session at asn id agreed) live)
noted_last ((core, frames.Down session) ∷ more) live = noted_last more (noted_frame (frames.Down session) live)
noted_last ((core, frames.Begin generation size) ∷ more) live = noted_last more live
noted_last ((core, frames.Piece piece) ∷ more) live = noted_last more live
noted_last ((core, frames.Commit generation) ∷ more) live = noted_last more live
noted_last ((core, frames.Ack generation) ∷ more) live = noted_last more live
noted_last ((core, frames.Routes session family withdrawn announced) ∷ more) live = noted_last more live
noted_last ((core, frames.Credit session messages) ∷ more) live = noted_last more live
noted_last ((core, frames.Refresh session family) ∷ more) live = noted_last more live
noted_last ((core, frames.Close session code sub held most) ∷ more) live = noted_last more live
noted_last ((core, frames.Track hop) ∷ more) live = noted_last more live
noted_last ((core, frames.Untrack hop) ∷ more) live = noted_last more live
noted_last ((core, frames.Nexthop hop valid) ∷ more) live = noted_last more live
noted_last ((core, frames.FibSet table prefix hop) ∷ more) live = noted_last more live
noted_last ((core, frames.FibDel table prefix) ∷ more) live = noted_last more live
noted_last ((core, frames.Couple table on) ∷ more) live = noted_last more live
noted_last ((core, frames.CtlWords words) ∷ more) live = noted_last more live
noted_last ((core, frames.CtlText text) ∷ more) live = noted_last more live
noted_last ((core, frames.CtlEnd status) ∷ more) live = noted_last more live

map_same : (ns : List ℕ) → map (λ n. n) ns ≡ ns
map_same [] = refl
map_same (n ∷ ns) = ap (λ (rest : List ℕ). n ∷ rest) (map_same ns)

one_more : (n : ℕ) → range_with_len 1 n ++ (n + 1) ∷ [] ≡ range_with_len 1 (n + 1)
one_more n =
    sym (ap (λ (ns : List ℕ). ns ++ (n + 1) ∷ []) (map_same (range_with_len 1 n)))
    ∙ sym (map-range_with_len_more (λ n. n) 1 n (n + 1) (omega arith))
    ∙ map_same (range_with_len 1 (n + 1))

last_is : (step : Step) (old core : Sessions) → DoesCall step.call old core step.done → (numbers : List ℕ) → ups step.done.frames ≡ numbers
    → core.live.last ≡ last_of old.live.last numbers
last_is step old core does numbers e =
    ap (λ (live : Live). live.last) (call_keeps step.call old core step.done does)
    ∙ noted_last step.done.frames old.live
    ∙ ap (last_of old.live.last) e

-- ---- how many sessions a call may bring up

few_by : (call : Call) (old new : Sessions) (done : Done) → DoesCall call old new done → (numbers : List ℕ) → ups done.frames ≡ numbers →
    last_of old.live.last numbers ≤ old.live.last + most_ups call → new.live.last ≤ old.live.last + most_ups call
few_by call old new done does numbers e few = omega (arith, few, last_is (record { call = call; done = done }) old new does numbers e)

few_heard : (at : Addr) (piece : List ℕ) (old new : Sessions) (done : Done) → Hears at piece old new done → Ups old done → new.live.last ≤ old.live.last + 1
few_heard at piece old new done does (inl none) = few_by (Heard at piece) old new done does [] none (omega arith)
few_heard at piece old new done does (inr one) = few_by (Heard at piece) old new done does ((old.live.last + 1) ∷ []) one (omega arith)

quiet_few : (call : Call) (reply : Reply) (old new : Sessions) (done : Done) → DoesCall call old new done → IsQuiet reply → Gives reply new done
    → new.live.last ≤ old.live.last + most_ups call
quiet_few call reply old new done does quiet gives = few_by call old new done does [] (quiet_given reply new done quiet gives) (omega arith)

-- but for bytes a call brings up none, and bytes bring up one at most
pub few_ups : (call : Call) (old new : Sessions) (done : Done) → DoesCall call old new done → new.live.last ≤ old.live.last + most_ups call
few_ups (Opened at) old new done does = quiet_few (Opened at) _ old new done does (event_is at peer.Opened old) does
few_ups (Lost at) old new done does = quiet_few (Lost at) _ old new done does (event_is at peer.Lost old) does
few_ups (Heard at piece) old new done does = few_heard at piece old new done does (heard at piece old new done does)
few_ups (Told now) old new done does = quiet_few (Told now) _ old new done does (all_is Deadline (record old { moment = now })) does
few_ups (Wrote at most) old new done does = quiet_few (Wrote at most) _ old new done does (event_is at (peer.Write most) old) does
few_ups (Stalled at stalled) old new done does = quiet_few (Stalled at stalled) _ old new done does (event_is at (peer.Stall stalled) old) does
few_ups (Took frame) old new done does = quiet_few (Took frame) _ old new done does (frame_is frame old) does
few_ups (Applied conf generation) old new done does = quiet_few (Applied conf generation) _ old new done does (apply_is conf generation old) does
few_ups (Commanded command) old new done does = quiet_few (Commanded command) _ old new done does (command_is command old) does
few_ups Stopped old new done does = quiet_few Stopped _ old new done does (all_is Stop old) does

all_ups : (step : Step) (h : History) (old : Sessions) (numbers : List ℕ) → ups (written h) ≡ range_with_len 1 old.live.last → ups step.done.frames ≡ numbers
    → ups (written h ++ step.done.frames) ≡ range_with_len 1 old.live.last ++ numbers
all_ups step h old numbers before e =
    ups_more (written h) step.done.frames
    ∙ ap (λ (ns : List ℕ). ns ++ ups step.done.frames) before
    ∙ ap (λ (ns : List ℕ). range_with_len 1 old.live.last ++ ns) e

climbs : (step : Step) (h : History) (old core : Sessions) → DoesCall step.call old core step.done → ups (written h) ≡ range_with_len 1 old.live.last
    → Ups old step.done → ups (written h ++ step.done.frames) ≡ range_with_len 1 core.live.last
climbs step h old core does before (inl none) =
    all_ups step h old [] before none ∙ append-nil (range_with_len 1 old.live.last) ∙ ap (range_with_len 1) (sym (last_is step old core does [] none))
climbs step h old core does before (inr one) =
    all_ups step h old ((old.live.last + 1) ∷ []) before one
    ∙ one_more old.live.last
    ∙ ap (range_with_len 1) (sym (last_is step old core does ((old.live.last + 1) ∷ []) one))

-- in every history the numbers climb by one
pub numbers_climb : (core : Sessions) (h : History) → Stands core h → ups (written h) ≡ range_with_len 1 core.live.last
numbers_climb core [] stands = ap (λ (c : Sessions). range_with_len 1 c.live.last) (sym stands)
numbers_climb core (step ∷ h) stands =
    climbs step h stands.0 core stands.2 (numbers_climb stands.0 h stands.1) (call_ups step.call stands.0 core step.done stands.2)
