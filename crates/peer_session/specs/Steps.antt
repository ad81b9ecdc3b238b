-- What an event leads to: the row of the table of states and events, and what it asks for.
use Rattle.std.specs.Prelude.{◌≡◌, ◌<◌, length, ℕ, Bool, true, false, not, ◌&&◌, if◌then◌else◌, List, [], ◌∷◌, ◌++◌, take, drop, Option, Some, None}
use Rattle.net_base.specs.declared.addr.Addr.{Addr}
use Rattle.net_base.specs.declared.addr.Family.{Family}
use Rattle.net_base.specs.declared.addr.Family.TheVariants.{V4, V6}
use Rattle.session_fsm.specs.declared.event.Actions.{Actions}
use Rattle.session_fsm.specs.declared.event.SessionEvent.{SessionEvent}
use Rattle.session_fsm.specs.declared.event.SessionEvent.TheVariants as events
use Rattle.session_fsm.specs.Table.{Outcome, follows, has_connection_in}
use Rattle.bgp_wire.specs.declared.front.Cut.{Cut}
use Rattle.bgp_wire.specs.declared.front.Cut.TheVariants as cuts
use Rattle.bgp_wire.specs.declared.open.Encoding.{Encoding}
use Rattle.bgp_wire.specs.declared.open.OpenFacts.{OpenFacts}
use Rattle.bgp_wire.specs.Message.{cut_of, message_bytes}
use Rattle.bgp_wire.specs.Written.{keepalive, notification, open_by}
use Rattle.peer_io.specs.Queue.{Queue, begun_rest}
use Rattle.core_msgs.specs.declared.answer.Line.{Line}
use Rattle.core_msgs.specs.declared.answer.Line.TheVariants as reported
use Rattle.core_msgs.specs.declared.frame.Agreed.{Agreed}
use Rattle.core_msgs.specs.declared.frame.Done.{Done}
use Rattle.core_msgs.specs.declared.frame.Frame.{Frame}
use Rattle.core_msgs.specs.declared.frame.Frame.TheVariants as written
use Rattle.core_msgs.specs.declared.parts.Core.{Core}
use Rattle.core_msgs.specs.declared.parts.Core.TheVariants.{Decision}
use Rattle.peer_session.specs.declared.neighbour.Reason.{Reason}
use Rattle.peer_session.specs.declared.neighbour.Reason.TheVariants as reasons
use Rattle.peer_session.specs.declared.hearing.Heard.{Heard}
use Rattle.peer_session.specs.declared.hearing.Heard.TheVariants as says
use Rattle.update_codec.specs.declared.update.Update.{Update}
use Rattle.peer_session.specs.Neighbour.{Course, Does, Neighbour, course, is_connected, is_established, reports, sends_where, tells, without_connection}
use Rattle.peer_session.specs.Frames.{update_frames}
use Rattle.peer_session.specs.Hearing.{heard_in}

-- the rest of a begun message and the NOTIFICATION that ends a connection, if one does
abbrev pub last_lines : Addr → Queue → Option (ℕ × ℕ) → List Line
last_lines peer outbox None = []
last_lines peer outbox (Some code) =
    reported.Last peer (take (begun_rest outbox) outbox.bytes ++ message_bytes (notification code.0 code.1)) ∷ []

-- why a connection ended
abbrev pub down_lines : Addr → Reason → Option (ℕ × ℕ) → List Line
down_lines peer reasons.Lost code = reported.DownLost peer ∷ []
down_lines peer (reasons.Received code sub) own = reported.DownReceived peer code sub ∷ []
down_lines peer (reasons.MaxPrefix held most) code = reported.DownMaxPrefix peer held most ∷ []
down_lines peer reasons.Code None = []
down_lines peer reasons.Code (Some code) = reported.Down peer code.0 code.1 ∷ []

abbrev pub down_frames : Bool → ℕ → List (Core × Frame)
down_frames is_down number = if is_down then (Decision, written.Down number) ∷ [] else []

-- A connection ends.
abbrev pub ends : Reason → Actions → Course → Course
ends reason actions c =
    let n = c.neighbour in
    record {
      neighbour = without_connection n;
      lines = (c.lines ++ last_lines n.peer n.outbox actions.notify) ++ down_lines n.peer reason actions.notify;
      frames = c.frames ++ down_frames actions.down n.number;
    }

abbrev pub ends_where : Bool → Reason → Actions → Course → Course
ends_where is_ended reason actions c = if is_ended then ends reason actions c else c

abbrev pub connect_lines : Bool → Addr → List Line
connect_lines connect peer = if connect then reported.Connect peer ∷ [] else []

-- what the row asks to be sent
abbrev pub sends_by : Actions → Neighbour → Neighbour
sends_by actions n = sends_where actions.keepalive keepalive (sends_where actions.send_open (open_by n.settings.rules) n)

abbrev pub takes_by : Reason → Outcome → Course → Course
takes_by reason outcome c =
    let n = c.neighbour in
    let is_ended = is_connected n && not (has_connection_in outcome.peer.state) in
    let sent = record c { neighbour = sends_by outcome.actions (record n { fsm = outcome.peer }) } in
    reports (connect_lines outcome.actions.connect n.peer) (ends_where is_ended reason outcome.actions sent)

-- A neighbour takes an event.
unfoldable pub takes : SessionEvent → Reason → ℕ → Course → Course
takes event reason now c = takes_by reason (follows c.neighbour.fsm event now) c

-- how the decision core is told of a session that comes up
abbrev pub agreed_of : Encoding → Agreed
agreed_of e = record { v4 = e.v4; v6 = e.v6; as4 = e.as4; refresh = e.refresh }

abbrev pub up_frame : ℕ → Addr → OpenFacts → Core × Frame
up_frame number peer facts = (Decision, written.Up number peer facts.asn facts.id (agreed_of facts.encoding))

abbrev pub comes_up_by : Option OpenFacts → ℕ → Course → Course
comes_up_by None number c = c
comes_up_by (Some facts) number c = record {
  neighbour = record c.neighbour { number = number };
  lines = c.lines ++ reported.Up c.neighbour.peer ∷ [];
  frames = c.frames ++ up_frame number c.neighbour.peer facts ∷ [];
}

abbrev pub comes_up_where : Bool → ℕ → Course → Course
comes_up_where is_new number c = if is_new then comes_up_by c.neighbour.facts number c else c

abbrev pub is_agreed : Encoding → Family → Bool
is_agreed e V4 = e.v4
is_agreed e V6 = e.v6

abbrev pub refresh_frames : ℕ → Option OpenFacts → Option Family → List (Core × Frame)
refresh_frames number (Some facts) (Some family) =
    if facts.encoding.refresh && is_agreed facts.encoding family then (Decision, written.Refresh number family) ∷ [] else []
refresh_frames number _ _ = []

-- routes of an established session alone are told
abbrev pub tells_update : Update → Course → Course
tells_update update c = if is_established c.neighbour then tells (update_frames c.neighbour.number update) c else c

abbrev pub tells_refresh : Option Family → Course → Course
tells_refresh family c =
    if is_established c.neighbour then tells (refresh_frames c.neighbour.number c.neighbour.facts family) c else c

-- A KEEPALIVE may bring the session up.
abbrev pub keeps_alive : ℕ → ℕ → Course → Course
keeps_alive number now c =
    let behind = takes events.Keepalive reasons.Code now c in
    comes_up_where (not (is_established c.neighbour) && is_established behind.neighbour) number behind

abbrev pub hears_open : OpenFacts → Course → Course
hears_open facts c = record c { neighbour = record c.neighbour { facts = Some facts } }

-- What a message leads to.
abbrev pub handles : ℕ → ℕ → Heard → Course → Course
handles number now (says.Open facts) c = takes (events.Open facts.hold) reasons.Code now (hears_open facts c)
handles number now says.Keepalive c = keeps_alive number now c
handles number now (says.Update update) c = tells_update update (takes events.Update reasons.Code now c)
handles number now (says.Refresh family) c = tells_refresh family (takes events.Refresh reasons.Code now c)
handles number now (says.Received code sub) c = takes events.Received (reasons.Received code sub) now c
handles number now (says.Bad fault) c = takes (events.Bad fault.code fault.sub) reasons.Code now c
handles number now says.Other c = takes events.Other reasons.Code now c

-- what the message in front says, of so many bytes
abbrev pub heard_front : ℕ → ℕ → Neighbour → Heard
heard_front kind size n = heard_in n.fsm.state n.settings.rules n.facts kind (drop 19 (take size n.held))

-- the bytes of a message are handled
abbrev pub passes : ℕ → Course → Course
passes size c = record c { neighbour = record c.neighbour { held = drop size c.neighbour.held } }

-- What stands in front is handled, once it is whole.
abbrev pub handles_front : ℕ → ℕ → Cut → Course → Course
handles_front number now cuts.More c = c
handles_front number now (cuts.Message kind size) c = handles number now (heard_front kind size c.neighbour) (passes size c)
handles_front number now (cuts.Notify fault) c = takes (events.Bad fault.code fault.sub) reasons.Code now c

-- whether something is left to be handled: the connection stands, and a message or a bad header is in front
abbrev pub is_there : Cut → Bool
is_there cuts.More = false
is_there _ = true

abbrev pub goes_on : Neighbour → Bool
goes_on n = is_connected n && is_there (cut_of n.held)

-- What stands in front was handled, and fewer bytes are left.
pub record IsHandled (number now : ℕ) (old new : Neighbour) (before behind : Done) : Type 0 where
  pub there : goes_on old ≡ true
  pub does : Does (handles_front number now (cut_of old.held)) old new before behind
  pub less : length new.held < length old.held

-- It was, or nothing was there.
abbrev pub Goes : ℕ → ℕ → Bool → Neighbour → Neighbour → Done → Done → Type 0
Goes number now true old new before behind = IsHandled number now old new before behind
Goes number now false old new before behind = (goes_on old ≡ false) × (course new behind ≡ course old before)

-- One message behind the other is handled, until the connection ends or no whole message is left.
pub data Handles (number now : ℕ) : Course → Course → Type 0 where
  stops : (c : Course) → goes_on c.neighbour ≡ false → Handles number now c c
  goes : (c last : Course) → goes_on c.neighbour ≡ true →
      Handles number now (handles_front number now (cut_of c.neighbour.held) c) last → Handles number now c last

-- Bytes of the peer come.
abbrev pub feeds : List ℕ → Course → Course
feeds piece c = record c { neighbour = record c.neighbour { held = c.neighbour.held ++ piece } }
