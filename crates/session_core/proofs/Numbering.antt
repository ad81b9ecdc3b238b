-- What is kept of the numbers of sessions is what the frames say that were written.
use Rattle.std.proofs.Common.{◌≡◌, ◌∙◌, ℕ, Bool, true, false, cond, List, [], ◌∷◌, ◌++◌, map, filter, Option, Some, None, Result, Ok, Err, refl, sym, ap}
use Rattle.std.specs.List.{range_with_len}
use Rattle.net_base.specs.declared.addr.Addr.{Addr}
use Rattle.net_base.specs.declared.conf.ConfFault.{ConfFault}
use Rattle.conf_tree.specs.declared.conf.Conf.{Conf}
use Rattle.conf_tree.specs.Language.{configuration_within, most_canonical_bytes}
use Rattle.conf_shows.specs.Shown.{all_couple_frames, couple_frame, has_table}
use Rattle.core_msgs.specs.declared.control.CtlCommand.{CtlCommand}
use Rattle.core_msgs.specs.declared.control.CtlCommand.TheVariants as ctl
use Rattle.core_msgs.specs.declared.frame.Done.{Done}
use Rattle.core_msgs.specs.declared.frame.Frame.{Frame}
use Rattle.core_msgs.specs.declared.frame.Frame.TheVariants as frames
use Rattle.core_msgs.specs.declared.parts.Core.{Core}
use Rattle.reload_stage.specs.declared.item.StageItem.{StageItem}
use Rattle.reload_stage.specs.declared.item.StageItem.TheVariants.{Begin, Piece, Commit}
use Rattle.reload_stage.specs.Stages.{can_follow, taken_then}
use Rattle.session_core.specs.declared.event.PeerEvent.{PeerEvent}
use Rattle.session_core.specs.declared.event.PeerEvent.TheVariants as peer
use Rattle.session_core.specs.Calls.{Gives, Reply, command_reply, commit_reply, emptied, event_found, frame_reply, item_reply, read_reply, still}
use Rattle.session_core.specs.History.{Call, DoesCall, History, Opened, Lost, Heard, Told, Wrote, Stalled, Took, Applied, Commanded, Stopped, Stands, no_session, written}
use Rattle.session_core.specs.Numbers.{noted, noted_frame}
use Rattle.session_core.specs.Sessions.{Live, Sessions, live_peer}
use Rattle.session_core.specs.Shows.{couple_frames}

-- frames behind frames
noted_more : (first more : List (Core × Frame)) (live : Live) → noted (first ++ more) live ≡ noted more (noted first live)
noted_more [] more live = refl
noted_more (sent ∷ first) more live = noted_more first more (noted_frame sent.1 live)

-- a reply keeps the numbers by its frames
abbrev Keeps : Reply → Sessions → Type 0
Keeps reply core = reply.core.live ≡ noted reply.frames core.live

found_keeps : (o : Option Addr) (event : PeerEvent) (core : Sessions) → Keeps (event_found o event core) core
found_keeps None event core = refl
found_keeps (Some at) event core = refl

item_keeps : (item : StageItem) (core : Sessions) → Keeps (item_reply item core) core
item_keeps item core = go (can_follow core.assembly item)
  where
    go : (b : Bool) → Keeps (still (cond b (record core { assembly = taken_then core.assembly item }) core)) core
    go true = refl
    go false = refl

read_keeps : (said : Result Conf ConfFault) (generation : ℕ) (core : Sessions) → Keeps (read_reply said generation core) core
read_keeps (Ok conf) generation core = refl
read_keeps (Err fault) generation core = refl

commit_keeps : (generation : ℕ) (core : Sessions) → Keeps (commit_reply generation core) core
commit_keeps generation core = go (can_follow core.assembly (Commit generation))
  where
    go : (b : Bool)
        → Keeps (cond b (read_reply (configuration_within most_canonical_bytes core.assembly.text) generation (emptied core)) (still core)) core
    go true = read_keeps (configuration_within most_canonical_bytes core.assembly.text) generation (emptied core)
    go false = refl

frame_keeps : (frame : Frame) (core : Sessions) → Keeps (frame_reply frame core) core
frame_keeps (frames.Begin generation size) core = item_keeps (Begin generation size) core
frame_keeps (frames.Piece piece) core = item_keeps (Piece piece) core
frame_keeps (frames.Commit generation) core = commit_keeps generation core
frame_keeps (frames.Close session code sub held most) core = found_keeps (live_peer session core.live) (peer.Close held most) core
frame_keeps (frames.Routes session family withdrawn announced) core = found_keeps (live_peer session core.live) (peer.Routes withdrawn announced) core
frame_keeps (frames.Ack generation) core = refl
frame_keeps (frames.Up session at asn id agreed) core = refl
frame_keeps (frames.Down session) core = refl
frame_keeps (frames.Credit session messages) core = refl
frame_keeps (frames.Refresh session family) core = refl
frame_keeps (frames.Track hop) core = refl
frame_keeps (frames.Untrack hop) core = refl
frame_keeps (frames.Nexthop hop valid) core = refl
frame_keeps (frames.FibSet table prefix hop) core = refl
frame_keeps (frames.FibDel table prefix) core = refl
frame_keeps (frames.Couple table on) core = refl
frame_keeps (frames.CtlWords words) core = refl
frame_keeps (frames.CtlText text) core = refl
frame_keeps (frames.CtlEnd status) core = refl

coupled : (on : Bool) (tables : List ℕ) (live : Live) → live ≡ noted (map (couple_frame on) tables) live
coupled on [] live = refl
coupled on (table ∷ tables) live = coupled on tables live

all_coupled : (conf : Conf) (on : Bool) (live : Live) → live ≡ noted (all_couple_frames conf on) live
unfolding all_couple_frames
all_coupled conf on live = coupled on (filter (has_table conf) (range_with_len 0 256)) live

couple_keeps : (conf : Conf) (table : Option ℕ) (on : Bool) (live : Live) → live ≡ noted (couple_frames conf table on) live
couple_keeps conf None on live = all_coupled conf on live
couple_keeps conf (Some table) on live = refl

command_keeps : (command : CtlCommand) (core : Sessions) → Keeps (command_reply command core) core
command_keeps ctl.ShowSummary core = refl
command_keeps (ctl.ShowNeighbour at) core = refl
command_keeps ctl.ShowSets core = refl
command_keeps ctl.ShowTables core = refl
command_keeps (ctl.ShowRib name) core = refl
command_keeps ctl.ShowRibIn core = refl
command_keeps ctl.ShowRibOut core = refl
command_keeps ctl.ShowRibMemory core = refl
command_keeps (ctl.ShowFib table) core = refl
command_keeps ctl.ShowNexthop core = refl
command_keeps (ctl.Couple table on) core = couple_keeps core.conf table on core.live
command_keeps (ctl.Neighbour at action) core = refl

given : (reply : Reply) (old new : Sessions) (done : Done) → Keeps reply old → Gives reply new done → new.live ≡ noted done.frames old.live
given reply old new done keeps gives =
    ap (λ (core : Sessions). core.live) gives.0 ∙ keeps ∙ ap (λ (d : Done). noted d.frames old.live) (sym gives.1)

pub call_keeps : (call : Call) (old new : Sessions) (done : Done) → DoesCall call old new done → new.live ≡ noted done.frames old.live
call_keeps (Opened at) old new done does = given _ old new done refl does
call_keeps (Lost at) old new done does = given _ old new done refl does
call_keeps (Heard at piece) old new done does = given _ old new done refl does.gives
call_keeps (Told now) old new done does = given _ old new done refl does
call_keeps (Wrote at most) old new done does = given _ old new done refl does
call_keeps (Stalled at stalled) old new done does = given _ old new done refl does
call_keeps (Took frame) old new done does = given _ old new done (frame_keeps frame old) does
call_keeps (Applied conf generation) old new done does = given _ old new done refl does
call_keeps (Commanded command) old new done does = given _ old new done (command_keeps command old) does
call_keeps Stopped old new done does = given _ old new done refl does

pub kept_by_frames : (core : Sessions) (h : History) → Stands core h → core.live ≡ noted (written h) no_session
kept_by_frames core [] stands = ap (λ (c : Sessions). c.live) stands
kept_by_frames core (step ∷ h) stands =
    let old = stands.0 in
    call_keeps step.call old core step.done stands.2
    ∙ ap (noted step.done.frames) (kept_by_frames old h stands.1)
    ∙ sym (noted_more (written h) step.done.frames no_session)
