-- What one neighbour does is what all do who are asked at its address.
use Rattle.std.proofs.Common.{◌≡◌, ◌∙◌, ℕ, List, Option, Some, None, Result, Ok, Err, sym, ap, subst}
use Rattle.std.proofs.lemmas.Map.Steps.{set_value_same}
use Rattle.std.specs.Map.{set_value}
use Rattle.std.specs.Prelude.{OnOk}
use Rattle.net_base.specs.declared.addr.Addr.{Addr}
use Rattle.core_msgs.specs.declared.frame.Done.{Done}
use Rattle.peer_session.specs.declared.refusal.SessionRefusal.{SessionRefusal}
use Rattle.peer_session.specs.Calls.{IsSame, Refuses, connection_refusal}
use Rattle.peer_session.specs.Neighbour.{Neighbour, course}
use Rattle.peer_session.specs.Steps.{Handles, feeds}
use Rattle.session_core.specs.declared.event.PeerEvent.{PeerEvent}
use Rattle.session_core.specs.Events.{bytes_refusal, event_refusal, refusal_at}
use Rattle.session_core.specs.Courses.{HandlesAt, courses}
use Rattle.session_core.specs.Sessions.{Peers, is_peer, peer_at}

-- a neighbour that is as it was is put back
stayed : (peer : Addr) (n w : Neighbour) (old new : Peers) (before behind : Done) → peer_at peer old ≡ Some n
    → new ≡ set_value (is_peer peer) old w → IsSame n w before behind → courses new behind ≡ courses old before
stayed peer n w old new before behind found put same =
    let back : new ≡ old = put ∙ ap (set_value (is_peer peer) old) same.0 ∙ set_value_same (is_peer peer) old n found in
    ap (λ (peers : Peers). courses peers behind) back ∙ ap (courses old) same.1

refused : (why : Option SessionRefusal) (peer : Addr) (n w : Neighbour) (old new : Peers) (before behind : Done) (answer : Result (Unit {0}) SessionRefusal)
    → peer_at peer old ≡ Some n → new ≡ set_value (is_peer peer) old w → Refuses why (IsSame n w before behind) answer
    → Refuses why (courses new behind ≡ courses old before) answer
refused None peer n w old new before behind answer found put h = h
refused (Some why) peer n w old new before behind answer found put h = (h.0, stayed peer n w old new before behind found put h.1)

pub event_refused : (event : PeerEvent) (peer : Addr) (n w : Neighbour) (old new : Peers) (before behind : Done) (answer : Result (Unit {0}) SessionRefusal)
    → peer_at peer old ≡ Some n → new ≡ set_value (is_peer peer) old w → Refuses (event_refusal event n) (IsSame n w before behind) answer
    → Refuses (refusal_at event (peer_at peer old)) (courses new behind ≡ courses old before) answer
event_refused event peer n w old new before behind answer found put h =
    subst (λ (o : Option Neighbour). Refuses (refusal_at event o) (courses new behind ≡ courses old before) answer) (sym found)
    (refused (event_refusal event n) peer n w old new before behind answer found put h)

pub heard_refused : (peer : Addr) (n w : Neighbour) (old new : Peers) (before behind : Done) (answer : Result (Unit {0}) SessionRefusal)
    → peer_at peer old ≡ Some n → new ≡ set_value (is_peer peer) old w → Refuses (connection_refusal n) (IsSame n w before behind) answer
    → Refuses (bytes_refusal (peer_at peer old)) (courses new behind ≡ courses old before) answer
heard_refused peer n w old new before behind answer found put h =
    subst (λ (o : Option Neighbour). Refuses (bytes_refusal o) (courses new behind ≡ courses old before) answer) (sym found)
    (refused (connection_refusal n) peer n w old new before behind answer found put h)

-- the neighbour that is there handles what came
heard : (peer : Addr) (piece : List ℕ) (number now : ℕ) (n w : Neighbour) (old new : Peers) (before behind : Done) → peer_at peer old ≡ Some n
    → new ≡ set_value (is_peer peer) old w → Handles number now (feeds piece (course n before)) (course w behind)
    → HandlesAt peer piece number now (courses old before) (courses new behind)
heard peer piece number now n w old new before behind found put handles = record {
  neighbour = n;
  is_there = found;
  behind = course w behind;
  handles = handles;
  gives = ap (λ (peers : Peers). courses peers behind) put;
}

pub heard_ok : (answer : Result (Unit {0}) SessionRefusal) (peer : Addr) (piece : List ℕ) (number now : ℕ) (n w : Neighbour) (old new : Peers) (before behind : Done)
    → peer_at peer old ≡ Some n → new ≡ set_value (is_peer peer) old w
    → OnOk answer (Handles number now (feeds piece (course n before)) (course w behind))
    → OnOk answer (HandlesAt peer piece number now (courses old before) (courses new behind))
heard_ok (Ok _) peer piece number now n w old new before behind found put h = heard peer piece number now n w old new before behind found put h
heard_ok (Err why) peer piece number now n w old new before behind found put h = h
