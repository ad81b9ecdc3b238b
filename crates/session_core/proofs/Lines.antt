-- Which lines each call reports, and the time behind it.
use Rattle.std.proofs.Common.{◌≡◌, ℕ, ◌+◌, Bool, true, false, not, ◌&&◌, List, [], ◌∷◌, ◌++◌, map, Option, None, Some, Result, Ok, Err, refl, ap, ◌∙◌}
use Rattle.std.specs.List.{list_all}
use Rattle.std.specs.Map.{keys_of, values_of}
use Rattle.net_base.specs.declared.addr.Addr.{Addr}
use Rattle.net_base.specs.declared.conf.ConfFault.{ConfFault}
use Rattle.net_base.specs.declared.roa.Roa.{Roa}
use Rattle.conf_tree.specs.declared.conf.Conf.{Conf}
use Rattle.conf_tree.specs.declared.sets.AsSetConf.{AsSetConf}
use Rattle.conf_tree.specs.declared.sets.OriginSetConf.{OriginSetConf}
use Rattle.conf_tree.specs.declared.sets.PrefixSetConf.{PrefixSetConf}
use Rattle.conf_tree.specs.Language.{configuration_within, most_canonical_bytes}
use Rattle.reload_stage.specs.declared.item.StageItem.TheVariants.{Commit}
use Rattle.reload_stage.specs.Stages.{can_follow}
use Rattle.conf_shows.specs.Shown.{set_rows, prefix_set_rows, as_set_rows, origin_set_rows, roa_rows}
use Rattle.core_msgs.specs.declared.answer.Line.{Line}
use Rattle.core_msgs.specs.declared.answer.Line.TheVariants.{AppliedSession}
use Rattle.core_msgs.specs.declared.frame.Done.{Done}
use Rattle.core_msgs.specs.declared.frame.Frame.{Frame}
use Rattle.core_msgs.specs.declared.frame.Frame.TheVariants as frames
use Rattle.core_msgs.specs.declared.control.CtlCommand.{CtlCommand}
use Rattle.core_msgs.specs.declared.control.CtlCommand.TheVariants as ctl
use Rattle.core_msgs.specs.declared.control.SessionAction.{SessionAction}
use Rattle.core_msgs.specs.declared.control.SessionAction.TheVariants.{Up, Down, Clear, Refresh}
use Rattle.peer_session.specs.declared.neighbour.Settings.{Settings}
use Rattle.peer_session.specs.Neighbour.{Course, Neighbour}
use Rattle.peer_session.specs.Steps.{feeds}
use Rattle.peer_session.specs.Calls.{fresh}
use Rattle.peer_session.specs.Reported.{is_session_line, is_sent_line}
use Rattle.peer_session.proofs.Lines.{OfSession, hears_is, routed_is, comes_is, loses_is, expires_is, goes_down_is, comes_back_is, clears_is, exceeds_is, leaves_is, configures_is, opens_adds_nothing, writes_is, all_append}
use Rattle.session_core.specs.declared.event.AllEvent.{AllEvent}
use Rattle.session_core.specs.declared.event.AllEvent.TheVariants as all
use Rattle.session_core.specs.declared.event.PeerEvent.{PeerEvent}
use Rattle.session_core.specs.declared.event.PeerEvent.TheVariants as peer
use Rattle.session_core.specs.Sessions.{Peers, Sessions, live_peer, peer_at}
use Rattle.session_core.specs.Courses.{Courses, course_of, at_found, at_neighbour, in_turn, for_all, begun}
use Rattle.session_core.specs.Events.{operates, happens}
use Rattle.session_core.specs.Reloads.{Plan, plan_of, changes_found, changes, reloads, same_rules}
use Rattle.session_core.specs.Calls.{Reply, Gives, Hears, event_reply, event_found, all_reply, time_reply, apply_reply, item_reply, emptied, read_reply, commit_reply, frame_reply, command_reply}
use Rattle.session_core.specs.Shows.{summary_row, neighbour_row, neighbour_rows, row_of}
use Rattle.session_core.specs.History.{Call, Opened, Lost, Heard, Told, Wrote, Stalled, Took, Applied, Commanded, Stopped, DoesCall}
use Rattle.session_core.specs.Told.{is_taken_line, is_command_line, may_report, moment_behind}

-- ---- one neighbour

operates_is : (action : SessionAction) (now : ℕ) (c : Course) → OfSession c.lines → OfSession (operates action now c).lines
operates_is Up now c so = comes_back_is now c so
operates_is Down now c so = goes_down_is now c so
operates_is Clear now c so = clears_is now c so
operates_is Refresh now c so = so

everybody_is : (event : AllEvent) (now : ℕ) (c : Course) → OfSession c.lines → OfSession (happens (peer.All event) now c).lines
everybody_is all.Deadline now c so = expires_is now c so
everybody_is all.Stop now c so = goes_down_is now c so

-- ---- all neighbours

-- what a neighbour does adds such lines alone
abbrev Keeps : (Line → Bool) → (Course → Course) → Type 0
Keeps p f = (c : Course) → list_all p c.lines ≡ true → list_all p (f c).lines ≡ true

found_is : (p : Line → Bool) (at : Addr) (f : Course → Course) (n : Option Neighbour) (c : Courses) → Keeps p f → list_all p c.lines ≡ true →
    list_all p (at_found at f n c).lines ≡ true
found_is p at f None c keeps so = so
found_is p at f (Some n) c keeps so = keeps (course_of n c) so

at_is : (p : Line → Bool) (at : Addr) (f : Course → Course) (c : Courses) → Keeps p f → list_all p c.lines ≡ true →
    list_all p (at_neighbour at f c).lines ≡ true
at_is p at f c keeps so = found_is p at f (peer_at at c.peers) c keeps so

turns_are : (f : Course → Course) (addresses : List Addr) (c : Courses) → Keeps is_session_line f → OfSession c.lines → OfSession (in_turn f addresses c).lines
turns_are f [] c keeps so = so
turns_are f (at ∷ others) c keeps so = turns_are f others (at_neighbour at f c) keeps (at_is is_session_line at f c keeps so)

all_are : (f : Course → Course) (c : Courses) → Keeps is_session_line f → OfSession c.lines → OfSession (for_all f c).lines
all_are f c keeps so = turns_are f (keys_of c.peers) c keeps so

changed_is : (at : Addr) (wanted : Option Settings) (now : ℕ) (n : Option Neighbour) (c : Courses) → OfSession c.lines →
    OfSession (changes_found at wanted now n c).lines
changed_is at (Some settings) now (Some n) c so =
    configures_is (not (same_rules n.settings.rules settings.rules)) settings now (course_of n c) so
changed_is at (Some settings) now None c so = comes_is now (course_of (fresh at settings) c) so
changed_is at None now (Some n) c so = leaves_is now (course_of n c) so
changed_is at None now None c so = so

reloads_is : (plan : Plan) (now : ℕ) (c : Courses) → OfSession c.lines → OfSession (reloads plan now c).lines
reloads_is [] now c so = so
reloads_is (change ∷ plan) now c so =
    reloads_is plan now (changes now c change) (changed_is change.0 change.1 now (peer_at change.0 c.peers) c so)

-- ---- wider kinds

taken_line : (l : Line) → is_session_line l ≡ true → is_taken_line l ≡ true
taken_line l so = rw so refl

front_true : (a b : Bool) → (a && b) ≡ true → a ≡ true
front_true true b so = refl
front_true false b so = so

back_true : (a b : Bool) → (a && b) ≡ true → b ≡ true
back_true true b so = so
back_true false true so = refl
back_true false false so = so

both_true : (a b : Bool) → a ≡ true → b ≡ true → (a && b) ≡ true
both_true a b x y = rw x (rw y refl)

taken_lines : (lines : List Line) → OfSession lines → list_all is_taken_line lines ≡ true
taken_lines [] so = refl
taken_lines (l ∷ lines) so =
    both_true (is_taken_line l) (list_all is_taken_line lines) (taken_line l (front_true (is_session_line l) (list_all is_session_line lines) so))
    (taken_lines lines (back_true (is_session_line l) (list_all is_session_line lines) so))

-- ---- frames

apply_is : (conf : Conf) (generation : ℕ) (core : Sessions) → list_all is_taken_line (apply_reply conf generation core).lines ≡ true
apply_is conf generation core =
    let c : Courses = reloads (plan_of conf core.neighbours) core.moment (begun core.neighbours) in
    all_append is_taken_line c.lines (AppliedSession generation ∷ []) (taken_lines c.lines (reloads_is (plan_of conf core.neighbours) core.moment (begun core.neighbours) refl)) refl

event_found_is : (at : Option Addr) (event : PeerEvent) (core : Sessions) → Keeps is_session_line (happens event core.moment) →
    list_all is_taken_line (event_found at event core).lines ≡ true
event_found_is None event core keeps = refl
event_found_is (Some at) event core keeps =
    taken_lines (event_reply at event core).lines (at_is is_session_line at (happens event core.moment) (begun core.neighbours) keeps refl)

read_is : (read : Result Conf ConfFault) (generation : ℕ) (core : Sessions) → list_all is_taken_line (read_reply read generation core).lines ≡ true
read_is (Ok conf) generation core = apply_is conf generation core
read_is (Err fault) generation core = refl

commit_is : (follows : Bool) (generation : ℕ) (core : Sessions) → can_follow core.assembly (Commit generation) ≡ follows →
    list_all is_taken_line (commit_reply generation core).lines ≡ true
commit_is true generation core is = rw is (read_is (configuration_within most_canonical_bytes core.assembly.text) generation (emptied core))
commit_is false generation core is = rw is refl

frame_is : (frame : Frame) (core : Sessions) → list_all is_taken_line (frame_reply frame core).lines ≡ true
frame_is (frames.Begin generation size) core = refl
frame_is (frames.Piece piece) core = refl
frame_is (frames.Commit generation) core = commit_is (can_follow core.assembly (Commit generation)) generation core refl
frame_is (frames.Close session code sub held most) core =
    event_found_is (live_peer session core.live) (peer.Close held most) core (λ c so. exceeds_is held most core.moment c so)
frame_is (frames.Routes session family withdrawn announced) core =
    event_found_is (live_peer session core.live) (peer.Routes withdrawn announced) core (λ c so. routed_is _ withdrawn announced c refl so)
frame_is _ core = refl

-- ---- commands

summaries_are : (neighbours : Peers) → list_all (is_command_line ctl.ShowSummary) (map summary_row neighbours) ≡ true
summaries_are [] = refl
summaries_are (one ∷ others) = summaries_are others

rows_are : (at : Option Addr) (neighbours : List Neighbour) → list_all (is_command_line (ctl.ShowNeighbour at)) (map neighbour_row neighbours) ≡ true
rows_are at [] = refl
rows_are at (one ∷ others) = rows_are at others

one_is : (at : Option Addr) (n : Option Neighbour) → list_all (is_command_line (ctl.ShowNeighbour at)) (row_of n) ≡ true
one_is at None = refl
one_is at (Some n) = refl

neighbours_are : (at : Option Addr) (neighbours : Peers) → list_all (is_command_line (ctl.ShowNeighbour at)) (neighbour_rows at neighbours) ≡ true
neighbours_are None neighbours = rows_are None (values_of neighbours)
neighbours_are (Some at) neighbours = one_is (Some at) (peer_at at neighbours)

prefix_sets_are : (sets : List PrefixSetConf) → list_all (is_command_line ctl.ShowSets) (prefix_set_rows sets) ≡ true
prefix_sets_are [] = refl
prefix_sets_are (one ∷ others) = prefix_sets_are others

as_sets_are : (sets : List AsSetConf) → list_all (is_command_line ctl.ShowSets) (as_set_rows sets) ≡ true
as_sets_are [] = refl
as_sets_are (one ∷ others) = as_sets_are others

origin_sets_are : (sets : List OriginSetConf) → list_all (is_command_line ctl.ShowSets) (origin_set_rows sets) ≡ true
origin_sets_are [] = refl
origin_sets_are (one ∷ others) = origin_sets_are others

roas_are : (roas : List Roa) → list_all (is_command_line ctl.ShowSets) (roa_rows roas) ≡ true
roas_are [] = refl
roas_are (one ∷ others) = refl

sets_are : (conf : Conf) → list_all (is_command_line ctl.ShowSets) (set_rows conf) ≡ true
sets_are conf =
    let p : Line → Bool = is_command_line ctl.ShowSets in
    all_append p ((prefix_set_rows conf.prefix_sets ++ as_set_rows conf.as_sets) ++ origin_set_rows conf.origin_sets) (roa_rows conf.roas)
    (all_append p (prefix_set_rows conf.prefix_sets ++ as_set_rows conf.as_sets) (origin_set_rows conf.origin_sets)
    (all_append p (prefix_set_rows conf.prefix_sets) (as_set_rows conf.as_sets) (prefix_sets_are conf.prefix_sets) (as_sets_are conf.as_sets))
    (origin_sets_are conf.origin_sets))
    (roas_are conf.roas)

command_is : (command : CtlCommand) (core : Sessions) → list_all (is_command_line command) (command_reply command core).lines ≡ true
command_is (ctl.Neighbour at action) core =
    at_is is_session_line at (happens (peer.Operator action) core.moment) (begun core.neighbours) (λ c so. operates_is action core.moment c so) refl
command_is ctl.ShowSummary core = summaries_are core.neighbours
command_is (ctl.ShowNeighbour at) core = neighbours_are at core.neighbours
command_is ctl.ShowSets core = sets_are core.conf
command_is _ core = refl

-- ---- calls

given : (p : Line → Bool) (reply : Reply) (new : Sessions) (done : Done) → Gives reply new done → list_all p reply.lines ≡ true → list_all p done.lines ≡ true
given p reply new done gives so = ap (λ (d : Done). list_all p d.lines) gives.1 ∙ so

heard : (at : Addr) (piece : List ℕ) (old new : Sessions) (done : Done) → Hears at piece old new done → OfSession done.lines
heard at piece old new done hears =
    let one = hears.handles in
    ap (λ (d : Done). list_all is_session_line d.lines) hears.gives.1 ∙ ap (λ (c : Courses). list_all is_session_line c.lines) one.gives
    ∙ hears_is (old.live.last + 1) old.moment (feeds piece (course_of one.neighbour (begun old.neighbours))) one.behind one.handles refl

pub reports_are_so : (call : Call) (old new : Sessions) (done : Done) → DoesCall call old new done → list_all (may_report call) done.lines ≡ true
reports_are_so (Opened at) old new done does =
    given (may_report (Opened at)) (event_reply at peer.Opened old) new done does
    (at_is (may_report (Opened at)) at (happens peer.Opened old.moment) (begun old.neighbours) (λ c so. opens_adds_nothing (may_report (Opened at)) old.moment c so) refl)
reports_are_so (Lost at) old new done does =
    given is_session_line (event_reply at peer.Lost old) new done does
    (at_is is_session_line at (happens peer.Lost old.moment) (begun old.neighbours) (λ c so. loses_is old.moment c so) refl)
reports_are_so (Heard at piece) old new done does = heard at piece old new done does
reports_are_so (Told now) old new done does =
    given is_session_line (time_reply now old) new done does
    (all_are (happens (peer.All all.Deadline) now) (begun old.neighbours) (λ c so. everybody_is all.Deadline now c so) refl)
reports_are_so (Wrote at most) old new done does =
    given is_sent_line (event_reply at (peer.Write most) old) new done does
    (at_is is_sent_line at (happens (peer.Write most) old.moment) (begun old.neighbours) (λ c so. writes_is most c so) refl)
reports_are_so (Stalled at stalled) old new done does =
    given (may_report (Stalled at stalled)) (event_reply at (peer.Stall stalled) old) new done does
    (at_is (may_report (Stalled at stalled)) at (happens (peer.Stall stalled) old.moment) (begun old.neighbours) (λ c so. so) refl)
reports_are_so (Took frame) old new done does = given is_taken_line (frame_reply frame old) new done does (frame_is frame old)
reports_are_so (Applied conf generation) old new done does = given is_taken_line (apply_reply conf generation old) new done does (apply_is conf generation old)
reports_are_so (Commanded command) old new done does = given (is_command_line command) (command_reply command old) new done does (command_is command old)
reports_are_so Stopped old new done does =
    given is_session_line (all_reply all.Stop old) new done does
    (all_are (happens (peer.All all.Stop) old.moment) (begun old.neighbours) (λ c so. everybody_is all.Stop old.moment c so) refl)

-- ---- the time

found_keeps : (at : Option Addr) (event : PeerEvent) (core : Sessions) → (event_found at event core).core.moment ≡ core.moment
found_keeps None event core = refl
found_keeps (Some at) event core = refl

item_keeps : (follows : Bool) (item : _) (core : Sessions) → can_follow core.assembly item ≡ follows → (item_reply item core).core.moment ≡ core.moment
item_keeps true item core is = rw is refl
item_keeps false item core is = rw is refl

read_keeps : (read : Result Conf ConfFault) (generation : ℕ) (core : Sessions) → (read_reply read generation core).core.moment ≡ core.moment
read_keeps (Ok conf) generation core = refl
read_keeps (Err fault) generation core = refl

commit_keeps : (follows : Bool) (generation : ℕ) (core : Sessions) → can_follow core.assembly (Commit generation) ≡ follows →
    (commit_reply generation core).core.moment ≡ core.moment
commit_keeps true generation core is = rw is (read_keeps (configuration_within most_canonical_bytes core.assembly.text) generation (emptied core))
commit_keeps false generation core is = rw is refl

frame_keeps : (frame : Frame) (core : Sessions) → (frame_reply frame core).core.moment ≡ core.moment
frame_keeps (frames.Begin generation size) core = item_keeps _ _ core refl
frame_keeps (frames.Piece piece) core = item_keeps _ _ core refl
frame_keeps (frames.Commit generation) core = commit_keeps _ generation core refl
frame_keeps (frames.Close session code sub held most) core = found_keeps (live_peer session core.live) (peer.Close held most) core
frame_keeps (frames.Routes session family withdrawn announced) core = found_keeps (live_peer session core.live) (peer.Routes withdrawn announced) core
frame_keeps _ core = refl

command_keeps : (command : CtlCommand) (core : Sessions) → (command_reply command core).core.moment ≡ core.moment
command_keeps (ctl.Neighbour at action) core = refl
command_keeps ctl.ShowSummary core = refl
command_keeps (ctl.ShowNeighbour at) core = refl
command_keeps ctl.ShowSets core = refl
command_keeps (ctl.Couple table on) core = refl
command_keeps _ core = refl

pub time_is_so : (call : Call) (old new : Sessions) (done : Done) → DoesCall call old new done → new.moment ≡ moment_behind call old.moment
time_is_so (Opened at) old new done does = ap (λ (s : Sessions). s.moment) does.0
time_is_so (Lost at) old new done does = ap (λ (s : Sessions). s.moment) does.0
time_is_so (Heard at piece) old new done does = ap (λ (s : Sessions). s.moment) does.gives.0
time_is_so (Told now) old new done does = ap (λ (s : Sessions). s.moment) does.0
time_is_so (Wrote at most) old new done does = ap (λ (s : Sessions). s.moment) does.0
time_is_so (Stalled at stalled) old new done does = ap (λ (s : Sessions). s.moment) does.0
time_is_so (Took frame) old new done does = ap (λ (s : Sessions). s.moment) does.0 ∙ frame_keeps frame old
time_is_so (Applied conf generation) old new done does = ap (λ (s : Sessions). s.moment) does.0
time_is_so (Commanded command) old new done does = ap (λ (s : Sessions). s.moment) does.0 ∙ command_keeps command old
time_is_so Stopped old new done does = ap (λ (s : Sessions). s.moment) does.0
