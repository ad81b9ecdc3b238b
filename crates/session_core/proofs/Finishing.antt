-- How a call ends whose work came to an outcome.
use Rattle.std.proofs.Common.{◌≡◌, ◌≢◌, ◌∙◌, ℕ, ◌+◌, Bool, true, false, cond, List, [], Option, Some, None, Result, Ok, Err, OnOk, IfOk, IfErr, IsTrue, sym, ap, subst}
use Rattle.net_base.specs.declared.addr.Addr.{Addr}
use Rattle.core_msgs.specs.declared.control.SessionAction.{SessionAction}
use Rattle.core_msgs.specs.declared.control.SessionAction.TheVariants.{Up, Down, Clear, Refresh}
use Rattle.core_msgs.specs.declared.frame.Done.{Done}
use Rattle.session_fsm.specs.declared.peer.State.{State}
use Rattle.session_fsm.specs.declared.peer.State.TheVariants as states
use Rattle.peer_session.specs.declared.refusal.SessionRefusal.{SessionRefusal}
use Rattle.peer_session.specs.declared.refusal.SessionRefusal.TheVariants as refusals
use Rattle.peer_session.specs.Calls.{Refuses as PeerRefuses, loss_refusal_in, may_ask, open_refusal_in}
use Rattle.peer_session.specs.Neighbour.{Neighbour, is_connected}
use Rattle.session_core.specs.declared.event.PeerEvent.{PeerEvent}
use Rattle.session_core.specs.declared.event.PeerEvent.TheVariants as peer
use Rattle.session_core.specs.Calls.{Finishes, Gives, Hears, IsRefused, Refuses, event_reply, refused_by}
use Rattle.session_core.specs.Courses.{Courses, HandlesAt, at_neighbour, begun, courses}
use Rattle.session_core.specs.Events.{action_refusal, event_refusal, happens, refusal_at, unknown_refusal}
use Rattle.session_core.specs.History.{Follows, Heard}
use Rattle.session_core.specs.Numbers.{noted}
use Rattle.session_core.specs.Sessions.{Peers, Sessions}

-- the refusal is for another reason than memory
abbrev pub IsOther : Option SessionRefusal → Type 0
IsOther None = Unit {0}
IsOther (Some why) = why ≢ refusals.NoMemory

no_connection : (b : Bool) → IsOther (cond b None (Some refusals.NoConnection))
no_connection true = tt
no_connection false = λ e. cc

no_refresh : (b : Bool) → IsOther (cond b None (Some refusals.NoRefresh))
no_refresh true = tt
no_refresh false = λ e. cc

no_open : (s : State) → IsOther (open_refusal_in s)
no_open states.Down = λ e. cc
no_open states.Idle = tt
no_open states.Connect = tt
no_open states.Active = tt
no_open states.OpenSent = λ e. cc
no_open states.OpenConfirm = λ e. cc
no_open states.Established = λ e. cc

no_loss : (s : State) → IsOther (loss_refusal_in s)
no_loss states.Down = λ e. cc
no_loss states.Idle = λ e. cc
no_loss states.Connect = tt
no_loss states.Active = λ e. cc
no_loss states.OpenSent = tt
no_loss states.OpenConfirm = tt
no_loss states.Established = tt

no_action : (action : SessionAction) (n : Neighbour) → IsOther (action_refusal action n)
no_action Up n = tt
no_action Down n = tt
no_action Clear n = no_connection (is_connected n)
no_action Refresh n = no_refresh (may_ask n.fsm.state n.facts)

no_event : (event : PeerEvent) (n : Neighbour) → IsOther (event_refusal event n)
no_event peer.Opened n = no_open n.fsm.state
no_event peer.Lost n = no_loss n.fsm.state
no_event (peer.All event) n = tt
no_event (peer.Write most) n = no_connection (is_connected n)
no_event (peer.Stall stalled) n = no_connection (is_connected n)
no_event (peer.Operator action) n = no_action action n
no_event (peer.Close held most) n = tt
no_event (peer.Routes withdrawn announced) n = tt

no_unknown : (event : PeerEvent) → IsOther (unknown_refusal event)
no_unknown peer.Opened = λ e. cc
no_unknown peer.Lost = λ e. cc
no_unknown (peer.All event) = tt
no_unknown (peer.Write most) = λ e. cc
no_unknown (peer.Stall stalled) = λ e. cc
no_unknown (peer.Operator action) = λ e. cc
no_unknown (peer.Close held most) = tt
no_unknown (peer.Routes withdrawn announced) = tt

pub is_other : (event : PeerEvent) (o : Option Neighbour) → IsOther (refusal_at event o)
is_other event None = no_unknown event
is_other event (Some n) = no_event event n

-- the core with other neighbours
abbrev pub with_peers : Peers → Sessions → Sessions
with_peers peers core = record core { neighbours = peers }

ends_refused : (why : SessionRefusal) (new : Sessions) (answer : Result Done SessionRefusal) → answer ≡ Err why → why ≡ refusals.NoMemory → IsTrue new.spent
    → IfErr answer (λ w. (w ≡ refusals.NoMemory) × IsTrue new.spent)
ends_refused why new answer says is spent = subst (λ (a : Result Done SessionRefusal). IfErr a (λ w. (w ≡ refusals.NoMemory) × IsTrue new.spent)) (sym says) (is, spent)

unless_refused : (why : Option SessionRefusal) (outcome : Result (Unit {0}) SessionRefusal) (answer : Result Done SessionRefusal) (peers : Peers) (old new : Sessions) (start done : Done)
    → IsOther why → PeerRefuses why (courses peers done ≡ courses old.neighbours start) outcome → Finishes outcome done (with_peers peers old) new answer
    → Refuses why old new answer
unless_refused None (Ok _) (Ok given) peers old new start done other refuses finishes = tt
unless_refused None (Ok _) (Err why) peers old new start done other refuses finishes = finishes
unless_refused None (Err why) answer peers old new start done other refuses finishes =
    ends_refused why new answer finishes.says refuses (finishes.memory refuses)
unless_refused (Some why) outcome answer peers old new start done other refuses finishes =
    let is : IsRefused why (with_peers peers old) new answer =
    subst (λ (o : Result (Unit {0}) SessionRefusal). Finishes o done (with_peers peers old) new answer) refuses.0 finishes in
    (is.says, is.other other ∙ ap (λ (c : Courses). with_peers c.peers old) refuses.1)

-- an event that was refused leaves the core as it was
pub event_refuses : (event : PeerEvent) (o : Option Neighbour) (outcome : Result (Unit {0}) SessionRefusal) (answer : Result Done SessionRefusal) (peers : Peers)
    (old new : Sessions) (start done : Done) → old.spent ≡ false
    → PeerRefuses (refusal_at event o) (courses peers done ≡ courses old.neighbours start) outcome → Finishes outcome done (with_peers peers old) new answer
    → Refuses (refused_by old (refusal_at event o)) old new answer
event_refuses event o outcome answer peers old new start done live refuses finishes =
    subst (λ (b : Bool). Refuses (cond b (Some refusals.Spent) (refusal_at event o)) old new answer) (sym live)
    (unless_refused (refusal_at event o) outcome answer peers old new start done (is_other event o) refuses finishes)

-- one that is never refused
pub event_goes : (why : Option SessionRefusal) (answer : Result Done SessionRefusal) (old new : Sessions) → old.spent ≡ false → why ≡ None
    → Refuses (refused_by old why) old new answer → IfErr answer (λ w. (w ≡ refusals.NoMemory) × IsTrue new.spent)
event_goes why answer old new live free refuses =
    subst (λ (w : Option SessionRefusal). Refuses w old new answer) (ap (λ (b : Bool). cond b (Some refusals.Spent) why) live ∙ free) refuses

-- an event that was done
pub event_gives : (at : Addr) (event : PeerEvent) (outcome : Result (Unit {0}) SessionRefusal) (answer : Result Done SessionRefusal) (peers : Peers)
    (old new : Sessions) (start done : Done) → start ≡ record { lines = []; frames = [] }
    → OnOk outcome (courses peers done ≡ at_neighbour at (happens event old.moment) (courses old.neighbours start))
    → Finishes outcome done (with_peers peers old) new answer → IfOk answer (λ given. Gives (event_reply at event old) new given)
event_gives at event (Ok _) (Ok given) peers old new start done none does finishes =
    let is : courses peers done ≡ at_neighbour at (happens event old.moment) (begun old.neighbours) =
    does ∙ ap (λ (s : Done). at_neighbour at (happens event old.moment) (courses old.neighbours s)) none in (
      finishes.1 ∙ ap (λ (c : Courses). record old { neighbours = c.peers; live = noted c.frames old.live }) is,
      finishes.0 ∙ ap (λ (c : Courses). record { lines = c.lines; frames = c.frames }) is,
    )
event_gives at event (Err why) (Ok given) peers old new start done none does finishes = absurd (no finishes.says)
  where
    no : Ok given ≡ Err why → ⊥
    no e = cc
event_gives at event outcome (Err why) peers old new start done none does finishes = tt

-- bytes that were handled
pub hears : (outcome : Result (Unit {0}) SessionRefusal) (answer : Result Done SessionRefusal) (at : Addr) (piece : List ℕ) (number : ℕ) (peers : Peers)
    (old new : Sessions) (start done : Done) → number ≡ old.live.last + 1 → start ≡ record { lines = []; frames = [] }
    → OnOk outcome (HandlesAt at piece number old.moment (courses old.neighbours start) (courses peers done))
    → Finishes outcome done (with_peers peers old) new answer → IfOk answer (λ given. Hears at piece old new given)
hears (Ok _) (Ok given) at piece number peers old new start done is none handles finishes = record {
  behind = courses peers done;
  handles = subst (λ (n : ℕ). HandlesAt at piece n old.moment (begun old.neighbours) (courses peers done)) is
      (subst (λ (s : Done). HandlesAt at piece number old.moment (courses old.neighbours s) (courses peers done)) none handles);
  gives = (finishes.1, finishes.0);
}
hears (Err why) (Ok given) at piece number peers old new start done is none handles finishes = absurd (no finishes.says)
  where
    no : Ok given ≡ Err why → ⊥
    no e = cc
hears outcome (Err why) at piece number peers old new start done is none handles finishes = tt

pub heard_follows : (answer : Result Done SessionRefusal) (at : Addr) (piece : List ℕ) (old new : Sessions) → IfOk answer (λ given. Hears at piece old new given)
    → IfOk answer (λ given. Follows (Heard at piece) old new given)
heard_follows (Ok given) at piece old new h = λ before stands. (old, stands, h)
heard_follows (Err why) at piece old new h = tt
