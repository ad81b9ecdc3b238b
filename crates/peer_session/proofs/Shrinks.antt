-- Each message that is handled leaves fewer bytes.
use Rattle.std.proofs.Common.{◌≡◌, ◌∙◌, ◌&&◌, not, cond, ℕ, ◌+◌, ◌-◌, ◌<◌, ◌≤◌, Bool, true, false, [], length, drop, Option, Some, None, refl, ap, sym, subst, arith, length-drop}
use Rattle.session_fsm.specs.declared.event.Actions.{Actions}
use Rattle.session_fsm.specs.declared.event.SessionEvent.{SessionEvent}
use Rattle.session_fsm.specs.declared.event.SessionEvent.TheVariants as events
use Rattle.session_fsm.specs.declared.peer.Peer.{Peer}
use Rattle.session_fsm.specs.declared.peer.State.{State}
use Rattle.session_fsm.specs.declared.peer.State.TheVariants.{Down, Idle, Connect, Active, OpenSent, OpenConfirm, Established}
use Rattle.session_fsm.specs.Table.{Outcome, ends_with, follows, has_connection_in, idles, is_up, nothing, row}
use Rattle.bgp_wire.specs.declared.front.Cut.{Cut}
use Rattle.bgp_wire.specs.declared.front.Cut.TheVariants as cuts
use Rattle.bgp_wire.specs.declared.open.OpenFacts.{OpenFacts}
use Rattle.bgp_wire.specs.Message.{Message, cut_of}
use Rattle.bgp_wire.specs.Written.{keepalive, open_by}
use Rattle.bgp_wire.proofs.Stream.{cut_fault}
use Rattle.core_msgs.specs.declared.frame.Done.{Done}
use Rattle.net_base.specs.declared.addr.Family.{Family}
use Rattle.update_codec.specs.declared.update.Update.{Update}
use Rattle.peer_session.specs.declared.neighbour.Reason.{Reason}
use Rattle.peer_session.specs.declared.neighbour.Reason.TheVariants as reasons
use Rattle.peer_session.specs.declared.hearing.Heard.{Heard}
use Rattle.peer_session.specs.declared.hearing.Heard.TheVariants as says
use Rattle.peer_session.specs.Neighbour.{Course, Does, Neighbour, course, is_connected, is_established, sends_where, tells}
use Rattle.peer_session.specs.Steps.{Goes, Handles, IsHandled, goes, goes_on, stops, comes_up_by, ends_where, handles, handles_front, hears_open, heard_front, is_there, passes, refresh_frames, sends_by, takes, takes_by, tells_refresh, tells_update}
use Rattle.peer_session.specs.Frames.{update_frames}
use Rattle.peer_session.proofs.Fronts.{front_is}

held_of : Course → ℕ
held_of c = length c.neighbour.held

where_held : (b : Bool) (m : Message) (n : Neighbour) → (sends_where b m n).held ≡ n.held
where_held true m n = refl
where_held false m n = refl

sends_held : (a : Actions) (n : Neighbour) → (sends_by a n).held ≡ n.held
sends_held a n =
    where_held a.keepalive keepalive (sends_where a.send_open (open_by n.settings.rules) n)
    ∙ where_held a.send_open (open_by n.settings.rules) n

ends_held : (b : Bool) (r : Reason) (a : Actions) (c : Course) → length (ends_where b r a c).neighbour.held ≤ length c.neighbour.held
ends_held true r a c = omega arith
ends_held false r a c = omega arith

by_held : (r : Reason) (o : Outcome) (c : Course) → length (takes_by r o c).neighbour.held ≤ length c.neighbour.held
by_held r o c =
    let n : Neighbour = record c.neighbour { fsm = o.peer } in
    let sent : Course = record c { neighbour = sends_by o.actions n } in
    let is_ended = is_connected c.neighbour && not (has_connection_in o.peer.state) in
    let less = ends_held is_ended r o.actions sent in
    let same : length (sends_by o.actions n).held ≡ length c.neighbour.held = ap length (sends_held o.actions n) in
    omega (arith, less, same)

takes_held : (e : SessionEvent) (r : Reason) (now : ℕ) (c : Course) → length (takes e r now c).neighbour.held ≤ length c.neighbour.held
unfolding takes
takes_held e r now c = by_held r (follows c.neighbour.fsm e now) c

up_held : (b : Bool) (facts : Option OpenFacts) (number : ℕ) (c : Course) →
    (cond b (comes_up_by facts number c) c).neighbour.held ≡ c.neighbour.held
up_held true None number c = refl
up_held true (Some facts) number c = refl
up_held false facts number c = refl

update_held : (u : Update) (c : Course) → (tells_update u c).neighbour.held ≡ c.neighbour.held
update_held u c = by_cases (is_established c.neighbour)
  where
    by_cases : (b : Bool) → (cond b (tells (update_frames c.neighbour.number u) c) c).neighbour.held ≡ c.neighbour.held
    by_cases true = refl
    by_cases false = refl

refresh_held : (f : Option Family) (c : Course) → (tells_refresh f c).neighbour.held ≡ c.neighbour.held
refresh_held f c = by_cases (is_established c.neighbour)
  where
    by_cases : (b : Bool) → (cond b (tells (refresh_frames c.neighbour.number c.neighbour.facts f) c) c).neighbour.held ≡ c.neighbour.held
    by_cases true = refl
    by_cases false = refl

handles_held : (number now : ℕ) (h : Heard) (c : Course) → length (handles number now h c).neighbour.held ≤ length c.neighbour.held
handles_held number now (says.Open facts) c = takes_held (events.Open facts.hold) reasons.Code now (hears_open facts c)
handles_held number now says.Keepalive c =
    let behind = takes events.Keepalive reasons.Code now c in
    let up = up_held (not (is_established c.neighbour) && is_established behind.neighbour) behind.neighbour.facts number behind in
    rw up (takes_held events.Keepalive reasons.Code now c)
handles_held number now (says.Update u) c =
    rw (update_held u (takes events.Update reasons.Code now c)) (takes_held events.Update reasons.Code now c)
handles_held number now (says.Refresh f) c =
    rw (refresh_held f (takes events.Refresh reasons.Code now c)) (takes_held events.Refresh reasons.Code now c)
handles_held number now (says.Received code sub) c = takes_held events.Received (reasons.Received code sub) now c
handles_held number now (says.Bad fault) c = takes_held (events.Bad fault.code fault.sub) reasons.Code now c
handles_held number now says.Other c = takes_held events.Other reasons.Code now c

bad_row : (s : State) (code sub : ℕ) (p : Peer) (now : ℕ) → row s (events.Bad code sub) p now ≡ ends_with code sub p now
bad_row Down code sub p now = refl
bad_row Idle code sub p now = refl
bad_row Connect code sub p now = refl
bad_row Active code sub p now = refl
bad_row OpenSent code sub p now = refl
bad_row OpenConfirm code sub p now = refl
bad_row Established code sub p now = refl

-- a message that is to be answered by a NOTIFICATION ends the connection
bad_held : (code sub now : ℕ) (c : Course) → is_connected c.neighbour ≡ true →
    (takes (events.Bad code sub) reasons.Code now c).neighbour.held ≡ []
unfolding takes
bad_held code sub now c h =
    let o : Outcome = record { peer = idles c.neighbour.fsm now; actions = record nothing { notify = Some (code, sub); down = is_up c.neighbour.fsm.state } } in
    let e : follows c.neighbour.fsm (events.Bad code sub) now ≡ o = bad_row c.neighbour.fsm.state code sub c.neighbour.fsm now ∙ rw h refl in
    ap (λ (x : Outcome). (takes_by reasons.Code x c).neighbour.held) e ∙ rw h refl

pub front_shrinks : (number now : ℕ) (c : Course) (front : Cut) → front ≡ cut_of c.neighbour.held → is_connected c.neighbour ≡ true →
    is_there front ≡ true → length (handles_front number now front c).neighbour.held < length c.neighbour.held
front_shrinks number now c cuts.More e h there = cc
front_shrinks number now c (cuts.Message kind size) e h there =
    let f = front_is c.neighbour.held kind size (sym e) in
    let long : 19 ≤ size = f.header in
    let whole : size ≤ length c.neighbour.held = f.whole in
    let left : length (drop size c.neighbour.held) ≡ length c.neighbour.held - size = length-drop size c.neighbour.held in
    let less = handles_held number now (heard_front kind size c.neighbour) (passes size c) in
    omega (arith, less, left, long, whole)
front_shrinks number now c (cuts.Notify fault) e h there =
    let long : 19 ≤ length c.neighbour.held = (cut_fault c.neighbour.held fault (sym e)).0 in
    let none = bad_held fault.code fault.sub now c h in
    rw none (omega (arith, long))

both_true : (a b : Bool) → a ≡ true → b ≡ true → (a && b) ≡ true
both_true a b ha hb = rw (ha, hb) refl

pub handled : (number now : ℕ) (old new : Neighbour) (before behind : Done) (front : Cut) → front ≡ cut_of old.held → is_connected old ≡ true →
    is_there front ≡ true → Does (handles_front number now front) old new before behind → IsHandled number now old new before behind
handled number now old new before behind front e h there does =
    let less : length (handles_front number now front (course old before)).neighbour.held < length old.held =
    front_shrinks number now (course old before) front e h there in
    let same : new.held ≡ (handles_front number now front (course old before)).neighbour.held = ap (λ (c : Course). c.neighbour.held) does in
    record {
      there = both_true (is_connected old) (is_there (cut_of old.held)) h (ap is_there (sym e) ∙ there);
      does = does ∙ ap (λ (f : Cut). handles_front number now f (course old before)) e;
      less = rw same less;
    }

-- what the rest leads to is what all leads to
pub goes_more : (number now : ℕ) (old new : Neighbour) (before behind : Done) (last : Course) → IsHandled number now old new before behind →
    Handles number now (course new behind) last → Handles number now (course old before) last
goes_more number now old new before behind last h rest =
    goes (course old before) last h.there (subst (λ (c : Course). Handles number now c last) h.does rest)

pub goes_no_more : (number now : ℕ) (old new : Neighbour) (before behind : Done) → goes_on old ≡ false → course new behind ≡ course old before →
    Handles number now (course old before) (course new behind)
goes_no_more number now old new before behind none same =
    subst (λ (c : Course). Handles number now (course old before) c) (sym same) (stops (course old before) none)

-- the loop over the messages
pub next_stands : (number now : ℕ) (first : Course) (went : Bool) (old new : Neighbour) (before behind : Done) →
    Goes number now went old new before behind →
    ((last : Course) → Handles number now (course old before) last → Handles number now first last) →
    ((last : Course) → Handles number now (course new behind) last → Handles number now first last) × (went ≡ false → goes_on new ≡ false)
next_stands number now first true old new before behind h all =
    (λ last rest. all last (goes_more number now old new before behind last h rest), λ e. cc)
next_stands number now first false old new before behind h all =
    (λ last rest. all last (subst (λ (c : Course). Handles number now c last) h.1 rest), λ e. ap (λ (c : Course). goes_on c.neighbour) h.1 ∙ h.0)

pub next_less : (number now : ℕ) (was went : Bool) (old new : Neighbour) (before behind : Done) → was ≡ true →
    Goes number now went old new before behind → length new.held + cond went 1 0 < length old.held + cond was 1 0
next_less number now was true old new before behind e h = let less = h.less in rw e (omega (arith, less))
next_less number now was false old new before behind e h =
    let same : length new.held ≡ length old.held = ap (λ (c : Course). length c.neighbour.held) h.1 in
    rw e (omega (arith, same))
