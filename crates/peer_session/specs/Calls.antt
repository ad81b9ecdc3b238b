-- The calls on a neighbour: when they are refused, and what they do otherwise.
use Rattle.std.specs.Prelude.{◌≡◌, ℕ, ◌+◌, ◌-◌, ◌^◌, min, nat_le, Bool, true, false, not, ◌&&◌, ◌==◌, if◌then◌else◌, List, [], ◌∷◌, ◌++◌, length, take, Option, Some, None, is_some, Result, Err, IfErr}
use Rattle.net_base.specs.declared.addr.Addr.{Addr}
use Rattle.net_base.specs.declared.addr.Family.{Family}
use Rattle.net_base.specs.declared.addr.Family.TheVariants.{V4, V6}
use Rattle.net_base.specs.declared.prefix.Prefix.{Prefix}
use Rattle.attr_model.specs.declared.attrs.Attrs.{Attrs}
use Rattle.attr_model.specs.Valid.{IsValid}
use Rattle.session_fsm.specs.declared.event.SessionEvent.TheVariants as events
use Rattle.session_fsm.specs.declared.peer.State.{State}
use Rattle.session_fsm.specs.declared.peer.State.TheVariants as states
use Rattle.session_fsm.specs.Table.{is_up}
use Rattle.bgp_wire.specs.declared.open.Encoding.{Encoding}
use Rattle.bgp_wire.specs.declared.open.OpenFacts.{OpenFacts}
use Rattle.bgp_wire.specs.Message.{message_bytes}
use Rattle.bgp_wire.specs.Written.{refresh_of}
use Rattle.std.specs.List.{AllByRecursion}
use Rattle.attr_codec.specs.Prefixes.{IsOf}
use Rattle.update_codec.specs.declared.out_update.OutUpdate.{OutUpdate}
use Rattle.update_codec.specs.declared.out_update.OutUpdate.TheVariants.{Announce, Withdraw}
use Rattle.update_codec.specs.Written.{family_of, is_agreed, update_message}
use Rattle.peer_io.specs.Queue.{behind, ended, nothing_waits, taken}
use Rattle.core_msgs.specs.declared.answer.Line.{Line}
use Rattle.core_msgs.specs.declared.answer.Line.TheVariants as reported
use Rattle.core_msgs.specs.declared.frame.Done.{Done}
use Rattle.core_msgs.specs.declared.frame.Frame.{Frame}
use Rattle.core_msgs.specs.declared.frame.Frame.TheVariants as written
use Rattle.core_msgs.specs.declared.parts.Core.{Core}
use Rattle.core_msgs.specs.declared.parts.Core.TheVariants.{Decision}
use Rattle.peer_session.specs.declared.neighbour.Reason.TheVariants as reasons
use Rattle.peer_session.specs.declared.neighbour.Settings.{Settings}
use Rattle.peer_session.specs.declared.refusal.SessionRefusal.{SessionRefusal}
use Rattle.peer_session.specs.declared.refusal.SessionRefusal.TheVariants as refusals
use Rattle.peer_session.specs.Neighbour.{Course, Neighbour, is_connected, is_established, sends_where, tells}
use Rattle.peer_session.specs.Steps.{takes}

-- A refused call answers why, and leaves all as it was. Else only memory can be refused.
abbrev pub Refuses : Option SessionRefusal → Type 0 → Result (Unit {0}) SessionRefusal → Type 0
Refuses None same answer = IfErr answer (λ why. why ≡ refusals.NoMemory)
Refuses (Some why) same answer = (answer ≡ Err why) × same

abbrev pub IsSame : Neighbour → Neighbour → Done → Done → Type 0
IsSame old new before behind = (new ≡ old) × (behind ≡ before)

abbrev pub open_refusal_in : State → Option SessionRefusal
open_refusal_in states.Down = Some refusals.AdminDown
open_refusal_in states.OpenSent = Some refusals.AlreadyOpen
open_refusal_in states.OpenConfirm = Some refusals.AlreadyOpen
open_refusal_in states.Established = Some refusals.AlreadyOpen
open_refusal_in _ = None

abbrev pub loss_refusal_in : State → Option SessionRefusal
loss_refusal_in states.Down = Some refusals.NoConnection
loss_refusal_in states.Idle = Some refusals.NoConnection
loss_refusal_in states.Active = Some refusals.NoConnection
loss_refusal_in _ = None

-- a call that wants a connection
abbrev pub connection_refusal : Neighbour → Option SessionRefusal
connection_refusal n = if is_connected n then None else Some refusals.NoConnection

-- A neighbour that just came into the configuration.
abbrev pub fresh : Addr → Settings → Neighbour
fresh peer settings = record {
  peer = peer;
  settings = settings;
  fsm = record {
    state = if settings.down then states.Down else states.Idle;
    passive = settings.passive;
    hold = 0;
    hold_at = None;
    keep_at = None;
    idle_at = None;
  };
  held = [];
  outbox = nothing_waits;
  facts = None;
  number = 0;
  stalled = false;
}

abbrev pub number_of : Neighbour → Option ℕ
number_of n = if is_established n then Some n.number else None

abbrev pub hold_of : Option OpenFacts → Settings → ℕ
hold_of None settings = settings.rules.hold
hold_of (Some facts) settings = facts.hold

-- A neighbour comes into the configuration.
abbrev pub comes : ℕ → Course → Course
comes now c = takes events.Comes reasons.Code now c

-- A connection with it stands.
abbrev pub opens : ℕ → Course → Course
opens now c = takes events.Opened reasons.Code now c

-- Its connection is lost, or couldn't be made.
abbrev pub loses : ℕ → Course → Course
loses now c = takes events.Lost reasons.Lost now c

-- The time is told.
abbrev pub expires : ℕ → Course → Course
expires now c = takes events.Deadline reasons.Code now c

-- An operator takes it down.
abbrev pub goes_down : ℕ → Course → Course
goes_down now c = takes events.AdminDown reasons.Code now c

-- It is no longer down.
abbrev pub comes_back : ℕ → Course → Course
comes_back now c = takes events.AdminUp reasons.Code now c

-- An operator ends its connection.
abbrev pub clears : ℕ → Course → Course
clears now c = takes events.Clear reasons.Code now c

-- It announced more prefixes than it may.
abbrev pub exceeds : ℕ → ℕ → ℕ → Course → Course
exceeds held most now c = takes events.Close (reasons.MaxPrefix held most) now c

-- It leaves the configuration.
abbrev pub leaves : ℕ → Course → Course
leaves now c = takes (events.Ends 3) reasons.Code now c

-- what is sent, as a line where it is something
abbrev pub sent_lines : Addr → List ℕ → List Line
sent_lines peer [] = []
sent_lines peer (first ∷ others) = reported.Sent peer (first ∷ others) ∷ []

abbrev pub credit_frame : ℕ → ℕ → Core × Frame
credit_frame session messages = (Decision, written.Credit session messages)

-- the UPDATEs of an established session are credited together
abbrev pub credit_frames : Option ℕ → ℕ → List (Core × Frame)
credit_frames None updates = []
credit_frames (Some session) updates = if updates == 0 then [] else credit_frame session (min updates (2 ^ 32 - 1)) ∷ []

-- The next bytes of the outbox are sent.
abbrev pub writes : ℕ → Course → Course
writes most c =
    let n = c.neighbour in
    let size = taken most n.outbox in
    record {
      neighbour = record n { outbox = behind size n.outbox };
      lines = c.lines ++ sent_lines n.peer (take size n.outbox.bytes);
      frames = c.frames ++ credit_frames (number_of n) (ended (n.outbox.begun + size) n.outbox.waiting);
    }

-- routes for a peer as one UPDATE
abbrev pub update_of : List Prefix → Option (Attrs × List Prefix) → OutUpdate
update_of withdrawn None = Withdraw withdrawn
update_of withdrawn (Some group) = Announce group.0 group.1

-- at least one prefix, and the family was agreed
abbrev pub may_name : Encoding → Family → List Prefix → Bool
may_name encoding family [] = false
may_name encoding family (first ∷ others) = is_agreed encoding family

-- A weight is this speaker's own, and LOCAL_PREF is for internal peers.
abbrev pub may_stand : Encoding → Attrs → Bool
may_stand encoding attrs = (attrs.weight == 0) && (if encoding.external then not (is_some attrs.local_pref) else is_some attrs.local_pref)

abbrev pub may_be_sent : Encoding → OutUpdate → Bool
may_be_sent encoding (Withdraw prefixes) = may_name encoding (family_of prefixes) prefixes
may_be_sent encoding (Announce attrs prefixes) = may_name encoding attrs.hop.family prefixes && may_stand encoding attrs

-- whether an UPDATE can be written by what was agreed: it may be sent, and has at most 4096 bytes
abbrev pub can_write : Encoding → OutUpdate → Bool
can_write encoding update = may_be_sent encoding update && nat_le (length (message_bytes (update_message encoding update))) 4096

abbrev pub sends_update : Encoding → OutUpdate → Course → Course
sends_update encoding update c = record c { neighbour = sends_where true (update_message encoding update) c.neighbour }

-- What can't be written is passed over, and the credit for it goes at once.
abbrev pub routes_by : Option OpenFacts → OutUpdate → Course → Course
routes_by None update c = c
routes_by (Some facts) update c =
    if can_write facts.encoding update then sends_update facts.encoding update c else tells (credit_frame c.neighbour.number 1 ∷ []) c

-- Routes become one UPDATE of an established session.
abbrev pub routes_to : List Prefix → Option (Attrs × List Prefix) → Course → Course
routes_to withdrawn announced c =
    if is_established c.neighbour then routes_by c.neighbour.facts (update_of withdrawn announced) c else c

-- Valid attributes, and prefixes of the family of their next hop; or prefixes of one family.
abbrev pub AreRoutes : List Prefix → Option (Attrs × List Prefix) → Type 0
AreRoutes withdrawn None = AllByRecursion (IsOf (family_of withdrawn)) withdrawn
AreRoutes withdrawn (Some group) = IsValid group.0 × AllByRecursion (IsOf group.0.hop.family) group.1

-- whether the peer can be asked for its routes
abbrev pub may_ask : State → Option OpenFacts → Bool
may_ask state None = false
may_ask state (Some facts) = is_up state && facts.encoding.refresh

abbrev pub asks_by : Option OpenFacts → Neighbour → Neighbour
asks_by None n = n
asks_by (Some facts) n = sends_where facts.encoding.v6 (refresh_of V6) (sends_where facts.encoding.v4 (refresh_of V4) n)

-- A ROUTE-REFRESH is sent for each agreed family.
abbrev pub asks : Neighbour → Neighbour
asks n = asks_by n.facts n

abbrev pub refresh_refusal : Neighbour → Option SessionRefusal
refresh_refusal n = if may_ask n.fsm.state n.facts then None else Some refusals.NoRefresh

-- New settings, which change no state by themselves.
abbrev pub with_settings : Settings → Course → Course
with_settings settings c =
    record c { neighbour = record c.neighbour { settings = settings; fsm = record c.neighbour.fsm { passive = settings.passive } } }

abbrev pub comes_back_where : Bool → ℕ → Course → Course
comes_back_where is_wanted now c = if is_wanted then comes_back now c else c

-- Cease 6/6, where the rules of its sessions changed.
abbrev pub ends_for_rules : Bool → ℕ → Course → Course
ends_for_rules changed now c = if changed then takes (events.Ends 6) reasons.Code now c else c

-- New settings: those that newly take the neighbour down count before all else.
abbrev pub configures : Bool → Settings → ℕ → Course → Course
configures changed settings now c =
    let was = c.neighbour.settings in
    let set = with_settings settings c in
    if settings.down && not was.down then goes_down now set
    else ends_for_rules changed now (comes_back_where (was.down && not settings.down) now set)
