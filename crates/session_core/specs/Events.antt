-- What happens to one neighbour beside the bytes that it sends: why that is refused, and what is done otherwise.
use Rattle.std.specs.Prelude.{ℕ, Bool, Option, Some, None}
use Rattle.core_msgs.specs.declared.control.SessionAction.{SessionAction}
use Rattle.core_msgs.specs.declared.control.SessionAction.TheVariants.{Up, Down, Clear, Refresh}
use Rattle.peer_session.specs.declared.refusal.SessionRefusal.{SessionRefusal}
use Rattle.peer_session.specs.declared.refusal.SessionRefusal.TheVariants as refusals
use Rattle.peer_session.specs.Neighbour.{Course, Neighbour}
use Rattle.peer_session.specs.Calls.{AreRoutes, asks, clears, comes_back, connection_refusal, exceeds, expires, goes_down, loses, loss_refusal_in, open_refusal_in, opens, refresh_refusal, routes_to, writes}
use Rattle.session_core.specs.declared.event.AllEvent.TheVariants as all
use Rattle.session_core.specs.declared.event.PeerEvent.{PeerEvent}
use Rattle.session_core.specs.declared.event.PeerEvent.TheVariants as peer

abbrev pub action_refusal : SessionAction → Neighbour → Option SessionRefusal
action_refusal Up n = None
action_refusal Down n = None
action_refusal Clear n = connection_refusal n
action_refusal Refresh n = refresh_refusal n

abbrev pub event_refusal : PeerEvent → Neighbour → Option SessionRefusal
event_refusal peer.Opened n = open_refusal_in n.fsm.state
event_refusal peer.Lost n = loss_refusal_in n.fsm.state
event_refusal (peer.Write most) n = connection_refusal n
event_refusal (peer.Stall stalled) n = connection_refusal n
event_refusal (peer.Operator action) n = action_refusal action n
event_refusal event n = None

-- why it is refused for a neighbour that isn't there
abbrev pub unknown_refusal : PeerEvent → Option SessionRefusal
unknown_refusal peer.Opened = Some refusals.UnknownNeighbour
unknown_refusal peer.Lost = Some refusals.NoConnection
unknown_refusal (peer.Write most) = Some refusals.UnknownNeighbour
unknown_refusal (peer.Stall stalled) = Some refusals.UnknownNeighbour
unknown_refusal (peer.Operator action) = Some refusals.UnknownNeighbour
unknown_refusal event = None

abbrev pub refusal_at : PeerEvent → Option Neighbour → Option SessionRefusal
refusal_at event None = unknown_refusal event
refusal_at event (Some n) = event_refusal event n

-- why bytes are refused
abbrev pub bytes_refusal : Option Neighbour → Option SessionRefusal
bytes_refusal None = Some refusals.NoConnection
bytes_refusal (Some n) = connection_refusal n

-- what an operator does
abbrev pub operates : SessionAction → ℕ → Course → Course
operates Up now c = comes_back now c
operates Down now c = goes_down now c
operates Clear now c = clears now c
operates Refresh now c = record c { neighbour = asks c.neighbour }

-- what is done, at this time
abbrev pub happens : PeerEvent → ℕ → Course → Course
happens peer.Opened now c = opens now c
happens peer.Lost now c = loses now c
happens (peer.All all.Deadline) now c = expires now c
happens (peer.All all.Stop) now c = goes_down now c
happens (peer.Write most) now c = writes most c
happens (peer.Stall stalled) now c = record c { neighbour = record c.neighbour { stalled = stalled } }
happens (peer.Operator action) now c = operates action now c
happens (peer.Close held most) now c = exceeds held most now c
happens (peer.Routes withdrawn announced) now c = routes_to withdrawn announced c

-- Routes have valid attributes, and prefixes of one family.
abbrev pub CanHappen : PeerEvent → Type 0
CanHappen (peer.Routes withdrawn announced) = AreRoutes withdrawn announced
CanHappen event = Unit {0}

-- ---- the same for each call by itself

abbrev pub opened_refusal : Option Neighbour → Option SessionRefusal
opened_refusal o = refusal_at peer.Opened o

abbrev pub lost_refusal : Option Neighbour → Option SessionRefusal
lost_refusal o = refusal_at peer.Lost o

abbrev pub write_refusal : ℕ → Option Neighbour → Option SessionRefusal
write_refusal most o = refusal_at (peer.Write most) o

abbrev pub stall_refusal : Bool → Option Neighbour → Option SessionRefusal
stall_refusal stalled o = refusal_at (peer.Stall stalled) o

abbrev pub operator_refusal : SessionAction → Option Neighbour → Option SessionRefusal
operator_refusal action o = refusal_at (peer.Operator action) o
