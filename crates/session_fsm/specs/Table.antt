-- The table of a session's states and events (RFC 4271, section 8).
use Rattle.std.specs.Prelude.{◌≡◌, ℕ, ◌+◌, ◌-◌, ◌/◌, ◌^◌, min, Bool, true, false, not, ◌==◌, nat_le, if◌then◌else◌, Option, Some, None}
use Rattle.session_fsm.specs.declared.event.Actions.{Actions}
use Rattle.session_fsm.specs.declared.event.SessionEvent.{SessionEvent}
use Rattle.session_fsm.specs.declared.event.SessionEvent.TheVariants.{Comes, Opened, Open, Keepalive, Update, Refresh, Other, Bad, Received, Lost, Deadline, Close, AdminDown, AdminUp, Clear, Ends}
use Rattle.session_fsm.specs.declared.peer.Peer.{Peer}
use Rattle.session_fsm.specs.declared.peer.State.{State}
use Rattle.session_fsm.specs.declared.peer.State.TheVariants.{Down, Idle, Connect, Active, OpenSent, OpenConfirm, Established}

-- What a row says: how the peer is then, and what is to be done.
pub record Outcome : Type 0 where
  pub peer : Peer
  pub actions : Actions

abbrev pub nothing : Actions
nothing = record { send_open = false; keepalive = false; notify = None; connect = false; up = false; down = false }

abbrev pub has_connection_in : State → Bool
has_connection_in OpenSent = true
has_connection_in OpenConfirm = true
has_connection_in Established = true
has_connection_in _ = false

abbrev pub is_up : State → Bool
is_up Established = true
is_up _ = false

-- A time so many seconds later; the clock ends at 2^64 - 1.
abbrev pub later : ℕ → ℕ → ℕ
later now seconds = min (now + seconds) (2 ^ 64 - 1)

-- A deadline so many seconds later, of an agreed hold time; a hold time of 0 has none.
abbrev pub deadline_of : ℕ → ℕ → ℕ → Option ℕ
deadline_of hold now seconds = if hold == 0 then None else Some (later now seconds)

abbrev pub is_reached : Option ℕ → ℕ → Bool
is_reached None now = false
is_reached (Some at) now = nat_le at now

-- All is as it was.
abbrev pub stays : Peer → Outcome
stays p = record { peer = p; actions = nothing }

-- Connect, or Active where the peer is left to connect.
abbrev pub begins : Peer → Outcome
begins p = record {
  peer = record p { state = if p.passive then Active else Connect; idle_at = None };
  actions = record nothing { connect = not p.passive };
}

-- The own OPEN is sent, and the peer's has 240 seconds.
abbrev pub opens : Peer → ℕ → Outcome
opens p now = record {
  peer = record p { state = OpenSent; hold_at = Some (later now 240); keep_at = None; idle_at = None };
  actions = record nothing { send_open = true };
}

-- A KEEPALIVE is sent, and both deadlines are those of the agreed hold time.
abbrev pub agrees : Peer → ℕ → ℕ → Outcome
agrees p hold now = record {
  peer = record p { state = OpenConfirm; hold = hold; hold_at = deadline_of hold now hold; keep_at = deadline_of hold now (hold / 3) };
  actions = record nothing { keepalive = true };
}

-- The session is up; its deadlines are as they were.
abbrev pub comes_up : Peer → Outcome
comes_up p = record { peer = record p { state = Established }; actions = record nothing { up = true } }

abbrev pub renews : Peer → ℕ → Outcome
renews p now = record { peer = record p { hold_at = deadline_of p.hold now p.hold }; actions = nothing }

-- Idle for 30 seconds.
abbrev pub idles : Peer → ℕ → Peer
idles p now = record p { state = Idle; hold_at = None; keep_at = None; idle_at = Some (later now 30) }

-- The connection ends, if there is one, with this NOTIFICATION if it says one. Without a connection all is as it was.
abbrev pub ends_by : Option (ℕ × ℕ) → Peer → ℕ → Outcome
ends_by code p now =
    if has_connection_in p.state
    then record { peer = idles p now; actions = record nothing { notify = code; down = is_up p.state } }
    else stays p

abbrev pub ends : Peer → ℕ → Outcome
ends p now = ends_by None p now

abbrev pub ends_with : ℕ → ℕ → Peer → ℕ → Outcome
ends_with code sub p now = ends_by (Some (code, sub)) p now

-- Down without deadlines; a connection ends with 6/2.
abbrev pub goes_down : Peer → Outcome
goes_down p = record {
  peer = record p { state = Down; hold_at = None; keep_at = None; idle_at = None };
  actions = record nothing { notify = if has_connection_in p.state then Some (6, 2) else None; down = is_up p.state };
}

-- The keepalive deadline: a KEEPALIVE is sent, and the next goes a third of the hold time later.
abbrev pub keeps : Peer → ℕ → Outcome
keeps p now =
    if is_reached p.keep_at now
    then record { peer = record p { keep_at = Some (later now (p.hold / 3)) }; actions = record nothing { keepalive = true } }
    else stays p

-- One row a line. A state and an event that no line above the last has leave all as it was.
abbrev pub row : State → SessionEvent → Peer → ℕ → Outcome
-- 8.2.2, Idle: ManualStart or AutomaticStart, with or without passive establishment; IdleHoldTimer
row Idle Comes p now = begins p
row Idle Deadline p now = if is_reached p.idle_at now then begins p else stays p
-- 8.2.2, Connect and Active: the TCP connection succeeds, and an OPEN is sent
row Idle Opened p now = opens p now
row Connect Opened p now = opens p now
row Active Opened p now = opens p now
-- 8.2.2, Connect: the TCP connection fails
row Connect Lost p now = record { peer = idles p now; actions = nothing }
-- 8.2.2, OpenSent: BGPOpen
row OpenSent (Open hold) p now = agrees p hold now
-- 8.2.2, OpenConfirm: KeepAliveMsg
row OpenConfirm Keepalive p now = comes_up p
-- 8.2.2, Established: KeepAliveMsg, UpdateMsg; a ROUTE-REFRESH (RFC 2918)
row Established Keepalive p now = renews p now
row Established Update p now = renews p now
row Established Refresh p now = renews p now
-- 6.6: a message that the state doesn't expect
row _ (Open hold) p now = ends_with 5 0 p now
row _ Keepalive p now = ends_with 5 0 p now
row _ Update p now = ends_with 5 0 p now
row _ Refresh p now = ends_with 5 0 p now
row _ Other p now = ends_with 5 0 p now
-- 6.1 to 6.3: BGPHeaderErr, BGPOpenMsgErr, UpdateMsgErr
row _ (Bad code sub) p now = ends_with code sub p now
-- 8.2.2: NotifMsg, which is never answered by a NOTIFICATION
row _ Received p now = ends p now
-- 8.2.2: TcpConnectionFails
row _ Lost p now = ends p now
-- 6.5: HoldTimer_Expires; 8.2.2, OpenConfirm and Established: KeepaliveTimer_Expires
row OpenSent Deadline p now = if is_reached p.hold_at now then ends_with 4 0 p now else stays p
row OpenConfirm Deadline p now = if is_reached p.hold_at now then ends_with 4 0 p now else keeps p now
row Established Deadline p now = if is_reached p.hold_at now then ends_with 4 0 p now else keeps p now
-- 6.7 and RFC 4486: Cease, for too many prefixes, by an operator, by a new configuration
row _ Close p now = ends_with 6 1 p now
row _ AdminDown p now = goes_down p
row _ Clear p now = ends_with 6 4 p now
row _ (Ends sub) p now = if sub == 2 then goes_down p else ends_with 6 sub p now
-- 8.2.2, Idle: ManualStart
row Down AdminUp p now = begins p
row _ _ p now = stays p

-- What an event leads to at this time.
abbrev pub follows : Peer → SessionEvent → ℕ → Outcome
follows p event now = row p.state event p now

-- A step has this outcome.
pub record IsStep (wanted : Outcome) (new : Peer) (actions : Actions) : Type 0 where
  pub peer : new ≡ wanted.peer
  pub done : actions ≡ wanted.actions
