-- What the events and answers so far say of sessions: which are up, what their neighbours sent and were sent, and who is stalled.
use Rattle.std.specs.Prelude.{ℕ, Bool, true, false, not, ◌==◌, if◌then◌else◌, List, [], ◌∷◌, ◌++◌, filter, find, fold, Option, Some, None, option_and_then, option_map}
use Rattle.std.specs.BTreeSet.{insert_key}
use Rattle.std.specs.Result.{result_ok}
use Rattle.net_base.specs.declared.addr.Addr.{Addr}
use Rattle.net_base.specs.Order.{addr_cmp}
use Rattle.conf_tree.specs.declared.conf.Conf.{Conf}
use Rattle.conf_tree.specs.declared.neighbour.Neighbour.{Neighbour}
use Rattle.bgp_wire.specs.declared.open.OpenRules.{OpenRules}
use Rattle.bgp_wire.specs.declared.open.OpenFacts.{OpenFacts}
use Rattle.bgp_wire.specs.Message.{Message, messages}
use Rattle.bgp_wire.specs.Open.{open_of, answer_to}
use Rattle.update_codec.specs.Held.{told}
use Rattle.filter_engine.specs.Conditions.{same_address}
use Rattle.route_world.specs.World.{neighbour_at}
use Rattle.route_world.specs.declared.world.Session.{Session}
use Rattle.core_msgs.specs.declared.event.Event.{Event}
use Rattle.core_msgs.specs.declared.event.Event.TheVariants as event
use Rattle.core_msgs.specs.declared.answer.Line.{Line}
use Rattle.core_msgs.specs.declared.answer.Line.TheVariants as line
use Rattle.run_record.specs.Run.{History, conf}

-- ---- who is up

abbrev pub without_peer : Addr → List Addr → List Addr
without_peer peer peers = filter (λ other. not (same_address other peer)) peers

-- A session comes up by one line, and ends by one of four.
abbrev pub up_told : List Addr → Line → List Addr
up_told peers (line.Up peer) = insert_key addr_cmp peers peer
up_told peers (line.Down peer code sub) = without_peer peer peers
up_told peers (line.DownMaxPrefix peer held most) = without_peer peer peers
up_told peers (line.DownLost peer) = without_peer peer peers
up_told peers (line.DownReceived peer code sub) = without_peer peer peers
up_told peers _ = peers

-- the neighbours whose sessions are up, by address
abbrev pub peers_up : History → List Addr
peers_up [] = []
peers_up (step ∷ before) = fold up_told (peers_up before) step.answer.lines

-- ---- bytes of the present connection

-- nothing was heard and sent where a connection begins
abbrev pub from_begin : Addr → List ℕ → Event → Line → List ℕ
from_begin peer before (event.Open who way) line.Ok = if same_address who peer then [] else before
from_begin peer before _ _ = before

abbrev pub heard_more : Addr → List ℕ → Event → Line → List ℕ
heard_more peer before (event.Bytes who piece) line.Ok = if same_address who peer then before ++ piece else before
heard_more peer before event last = from_begin peer before event last

-- what a neighbour has sent since its last connection began
abbrev pub heard_from : Addr → History → List ℕ
heard_from peer [] = []
heard_from peer (step ∷ before) = heard_more peer (heard_from peer before) step.event step.answer.last

abbrev pub sent_more : Addr → List ℕ → Line → List ℕ
sent_more peer before (line.Sent who bytes) = if same_address who peer then before ++ bytes else before
sent_more peer before _ = before

-- what a neighbour was sent since its last connection began
abbrev pub sent_to : Addr → History → List ℕ
sent_to peer [] = []
sent_to peer (step ∷ before) = fold (sent_more peer) (from_begin peer (sent_to peer before) step.event step.answer.last) step.answer.lines

-- ---- sessions

-- by which rules the OPEN of a neighbour is judged
abbrev pub open_rules : Conf → Neighbour → OpenRules
open_rules conf neighbour = record {
  asn = conf.asn;
  remote_as = neighbour.remote_as;
  router_id = conf.router_id;
  hold = neighbour.hold;
  hold_min = neighbour.hold_min;
  v4 = neighbour.announce_v4;
  v6 = neighbour.announce_v6;
  refresh = neighbour.announce_refresh;
  as4 = neighbour.announce_as_4byte;
}

-- what the first OPEN among some messages says, where it has no fault
abbrev pub facts_in : OpenRules → List Message → Option OpenFacts
facts_in rules whole = option_and_then (λ m. result_ok (answer_to (open_of m.body) rules)) (find (λ m. m.kind == 1) whole)

-- a session that holds what the UPDATEs of its bytes leave
abbrev pub session_of : Addr → List ℕ → OpenFacts → Session
session_of peer heard facts = record { peer = peer; facts = facts; held = told facts.encoding heard }

-- the session of a neighbour that has sent this much; None without an OPEN that is taken
abbrev pub session_with : Conf → Addr → List ℕ → Neighbour → Option Session
session_with conf peer heard neighbour = option_map (session_of peer heard) (facts_in (open_rules conf neighbour) (messages heard).whole)

unfoldable pub session_by : Conf → Addr → List ℕ → Option Session
session_by conf peer heard = option_and_then (session_with conf peer heard) (neighbour_at conf peer)

-- the session of a neighbour by its present connection
abbrev pub session_at : History → Addr → Option Session
session_at h peer = session_by (conf h) peer (heard_from peer h)

-- ---- who takes no bytes

abbrev pub stall_told : Addr → Bool → Event → Line → Bool
stall_told peer before (event.Open who way) line.Ok = if same_address who peer then false else before
stall_told peer before (event.Stall who) line.Ok = if same_address who peer then true else before
stall_told peer before (event.Flow who) line.Ok = if same_address who peer then false else before
stall_told peer before _ _ = before

abbrev pub with_end : Addr → Bool → Line → Bool
with_end peer before (line.Down who code sub) = if same_address who peer then false else before
with_end peer before (line.DownMaxPrefix who held most) = if same_address who peer then false else before
with_end peer before (line.DownLost who) = if same_address who peer then false else before
with_end peer before (line.DownReceived who code sub) = if same_address who peer then false else before
with_end peer before _ = before

-- A neighbour is stalled from a `stall` on until a `flow`, or the end of the connection.
abbrev pub is_stalled : Addr → History → Bool
is_stalled peer [] = false
is_stalled peer (step ∷ before) = stall_told peer (fold (with_end peer) (is_stalled peer before) step.answer.lines) step.event step.answer.last
