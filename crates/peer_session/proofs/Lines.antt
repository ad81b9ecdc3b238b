-- What a neighbour reports in each call: lines of its session, and of bytes that are sent in a write alone.
use Rattle.std.proofs.Common.{◌≡◌, ℕ, Bool, true, false, not, ◌&&◌, List, [], ◌∷◌, ◌++◌, take, if◌then◌else◌, Option, None, Some, refl, ◌∙◌}
use Rattle.std.specs.List.{list_all}
use Rattle.std.proofs.lemmas.List.Folds.{list_all-append}
use Rattle.net_base.specs.declared.addr.Addr.{Addr}
use Rattle.net_base.specs.declared.prefix.Prefix.{Prefix}
use Rattle.attr_model.specs.declared.attrs.Attrs.{Attrs}
use Rattle.bgp_wire.specs.declared.front.Cut.{Cut}
use Rattle.bgp_wire.specs.declared.front.Cut.TheVariants as cuts
use Rattle.bgp_wire.specs.declared.open.OpenFacts.{OpenFacts}
use Rattle.bgp_wire.specs.Message.{cut_of}
use Rattle.peer_io.specs.Queue.{Queue, taken}
use Rattle.session_fsm.specs.declared.event.Actions.{Actions}
use Rattle.session_fsm.specs.declared.event.SessionEvent.{SessionEvent}
use Rattle.session_fsm.specs.declared.event.SessionEvent.TheVariants as events
use Rattle.session_fsm.specs.declared.peer.State.{State}
use Rattle.session_fsm.specs.declared.peer.State.TheVariants as states
use Rattle.session_fsm.specs.Table.{Outcome, follows, has_connection_in}
use Rattle.core_msgs.specs.declared.answer.Line.{Line}
use Rattle.peer_session.specs.declared.neighbour.Reason.{Reason}
use Rattle.peer_session.specs.declared.neighbour.Reason.TheVariants as reasons
use Rattle.peer_session.specs.declared.neighbour.Settings.{Settings}
use Rattle.peer_session.specs.declared.hearing.Heard.{Heard}
use Rattle.peer_session.specs.declared.hearing.Heard.TheVariants as says
use Rattle.peer_session.specs.Neighbour.{Course, is_connected, is_established}
use Rattle.peer_session.specs.Steps.{stops, goes, last_lines, down_lines, connect_lines, ends_where, sends_by, takes_by, takes, comes_up_where, tells_update, tells_refresh, hears_open, handles, heard_front, passes, handles_front, Handles}
use Rattle.update_codec.specs.declared.out_update.OutUpdate.{OutUpdate}
use Rattle.peer_session.specs.Calls.{sent_lines, writes, routes_by, routes_to, with_settings, comes_back, comes_back_where, ends_for_rules, configures, comes, leaves, opens, loses, expires, goes_down, clears, exceeds, can_write, update_of}
use Rattle.peer_session.specs.Reported.{is_session_line, is_sent_line}

-- ---- lists

-- each of the lines tells of a session
abbrev pub OfSession : List Line → Type 0
OfSession lines = list_all is_session_line lines ≡ true

both : (a b : Bool) → a ≡ true → b ≡ true → (a && b) ≡ true
both a b x y = rw x (rw y refl)

pub all_append : (p : Line → Bool) (xs ys : List Line) → list_all p xs ≡ true → list_all p ys ≡ true → list_all p (xs ++ ys) ≡ true
all_append p xs ys x y = list_all-append p xs ys ∙ both (list_all p xs) (list_all p ys) x y

more : (xs ys : List Line) → OfSession xs → OfSession ys → OfSession (xs ++ ys)
more xs ys x y = all_append is_session_line xs ys x y

-- ---- one neighbour

last_is : (peer : Addr) (outbox : Queue) (code : Option (ℕ × ℕ)) → OfSession (last_lines peer outbox code)
last_is peer outbox None = refl
last_is peer outbox (Some code) = refl

down_is : (peer : Addr) (reason : Reason) (code : Option (ℕ × ℕ)) → OfSession (down_lines peer reason code)
down_is peer reasons.Lost code = refl
down_is peer (reasons.Received code sub) own = refl
down_is peer (reasons.MaxPrefix held most) code = refl
down_is peer reasons.Code None = refl
down_is peer reasons.Code (Some code) = refl

connect_is : (connect : Bool) (peer : Addr) → OfSession (connect_lines connect peer)
connect_is true peer = refl
connect_is false peer = refl

ends_is : (ended : Bool) (reason : Reason) (actions : Actions) (c : Course) → OfSession c.lines → OfSession (ends_where ended reason actions c).lines
ends_is true reason actions c so =
    more (c.lines ++ last_lines c.neighbour.peer c.neighbour.outbox actions.notify) (down_lines c.neighbour.peer reason actions.notify)
    (more c.lines (last_lines c.neighbour.peer c.neighbour.outbox actions.notify) so (last_is c.neighbour.peer c.neighbour.outbox actions.notify))
    (down_is c.neighbour.peer reason actions.notify)
ends_is false reason actions c so = so

takes_by_is : (reason : Reason) (outcome : Outcome) (c : Course) → OfSession c.lines → OfSession (takes_by reason outcome c).lines
takes_by_is reason outcome c so =
    let n = c.neighbour in
    let ended : Bool = is_connected n && not (has_connection_in outcome.peer.state) in
    let sent : Course = record c { neighbour = sends_by outcome.actions (record n { fsm = outcome.peer }) } in
    more (ends_where ended reason outcome.actions sent).lines (connect_lines outcome.actions.connect n.peer)
    (ends_is ended reason outcome.actions sent so) (connect_is outcome.actions.connect n.peer)

pub takes_is : (event : SessionEvent) (reason : Reason) (now : ℕ) (c : Course) → OfSession c.lines → OfSession (takes event reason now c).lines
unfolding takes
takes_is event reason now c so = takes_by_is reason (follows c.neighbour.fsm event now) c so

comes_up_is : (is_new : Bool) (facts : Option OpenFacts) (number : ℕ) (c : Course) → c.neighbour.facts ≡ facts → OfSession c.lines →
    OfSession (comes_up_where is_new number c).lines
comes_up_is true None number c is so = rw is so
comes_up_is true (Some facts) number c is so = rw is (more c.lines _ so refl)
comes_up_is false facts number c is so = so

updates_is : (up : Bool) (c : Course) → is_established c.neighbour ≡ up → OfSession c.lines → (update : _) → OfSession (tells_update update c).lines
updates_is true c is so update = rw is so
updates_is false c is so update = rw is so

refreshes_is : (up : Bool) (c : Course) → is_established c.neighbour ≡ up → OfSession c.lines → (family : _) → OfSession (tells_refresh family c).lines
refreshes_is true c is so family = rw is so
refreshes_is false c is so family = rw is so

pub handles_is : (number now : ℕ) (heard : Heard) (c : Course) → OfSession c.lines → OfSession (handles number now heard c).lines
handles_is number now (says.Open facts) c so = takes_is (events.Open facts.hold) reasons.Code now (hears_open facts c) so
handles_is number now says.Keepalive c so =
    comes_up_is _ _ number (takes events.Keepalive reasons.Code now c) refl (takes_is events.Keepalive reasons.Code now c so)
handles_is number now (says.Update update) c so =
    updates_is _ (takes events.Update reasons.Code now c) refl (takes_is events.Update reasons.Code now c so) update
handles_is number now (says.Refresh family) c so =
    refreshes_is _ (takes events.Refresh reasons.Code now c) refl (takes_is events.Refresh reasons.Code now c so) family
handles_is number now (says.Received code sub) c so = takes_is events.Received (reasons.Received code sub) now c so
handles_is number now (says.Bad fault) c so = takes_is (events.Bad fault.code fault.sub) reasons.Code now c so
handles_is number now says.Other c so = takes_is events.Other reasons.Code now c so

front_is : (number now : ℕ) (cut : Cut) (c : Course) → OfSession c.lines → OfSession (handles_front number now cut c).lines
front_is number now cuts.More c so = so
front_is number now (cuts.Message kind size) c so = handles_is number now (heard_front kind size c.neighbour) (passes size c) so
front_is number now (cuts.Notify fault) c so = takes_is (events.Bad fault.code fault.sub) reasons.Code now c so

-- bytes are handled
pub hears_is : (number now : ℕ) (c last : Course) → Handles number now c last → OfSession c.lines → OfSession last.lines
hears_is number now c last (stops _ _) so = so
hears_is number now c last (goes _ _ there rest) so =
    hears_is number now (handles_front number now (cut_of c.neighbour.held) c) last rest (front_is number now (cut_of c.neighbour.held) c so)

routes_is : (facts : Option OpenFacts) (update : OutUpdate) (c : Course) → OfSession c.lines → OfSession (routes_by facts update c).lines
routes_is None update c so = so
routes_is (Some facts) update c so = written_is _ refl
  where
    written_is : (can : Bool) → can_write facts.encoding update ≡ can → OfSession (routes_by (Some facts) update c).lines
    written_is true is = rw is so
    written_is false is = rw is so

pub routed_is : (up : Bool) (withdrawn : List Prefix) (announced : Option (Attrs × List Prefix)) (c : Course) → is_established c.neighbour ≡ up →
    OfSession c.lines → OfSession (routes_to withdrawn announced c).lines
routed_is true withdrawn announced c is so = rw is (routes_is c.neighbour.facts (update_of withdrawn announced) c so)
routed_is false withdrawn announced c is so = rw is so

-- ---- the calls

pub comes_is : (now : ℕ) (c : Course) → OfSession c.lines → OfSession (comes now c).lines
comes_is now c so = takes_is events.Comes reasons.Code now c so

pub loses_is : (now : ℕ) (c : Course) → OfSession c.lines → OfSession (loses now c).lines
loses_is now c so = takes_is events.Lost reasons.Lost now c so

pub expires_is : (now : ℕ) (c : Course) → OfSession c.lines → OfSession (expires now c).lines
expires_is now c so = takes_is events.Deadline reasons.Code now c so

pub goes_down_is : (now : ℕ) (c : Course) → OfSession c.lines → OfSession (goes_down now c).lines
goes_down_is now c so = takes_is events.AdminDown reasons.Code now c so

pub comes_back_is : (now : ℕ) (c : Course) → OfSession c.lines → OfSession (comes_back now c).lines
comes_back_is now c so = takes_is events.AdminUp reasons.Code now c so

pub clears_is : (now : ℕ) (c : Course) → OfSession c.lines → OfSession (clears now c).lines
clears_is now c so = takes_is events.Clear reasons.Code now c so

pub exceeds_is : (held most now : ℕ) (c : Course) → OfSession c.lines → OfSession (exceeds held most now c).lines
exceeds_is held most now c so = takes_is events.Close (reasons.MaxPrefix held most) now c so

pub leaves_is : (now : ℕ) (c : Course) → OfSession c.lines → OfSession (leaves now c).lines
leaves_is now c so = takes_is (events.Ends 3) reasons.Code now c so

back_is : (wanted : Bool) (now : ℕ) (c : Course) → OfSession c.lines → OfSession (comes_back_where wanted now c).lines
back_is true now c so = comes_back_is now c so
back_is false now c so = so

rules_is : (changed : Bool) (now : ℕ) (c : Course) → OfSession c.lines → OfSession (ends_for_rules changed now c).lines
rules_is true now c so = takes_is (events.Ends 6) reasons.Code now c so
rules_is false now c so = so

down_or_not : (down back changed : Bool) (now : ℕ) (c : Course) → OfSession c.lines →
    OfSession (if down then goes_down now c else ends_for_rules changed now (comes_back_where back now c)).lines
down_or_not true back changed now c so = goes_down_is now c so
down_or_not false back changed now c so = rules_is changed now (comes_back_where back now c) (back_is back now c so)

pub configures_is : (changed : Bool) (settings : Settings) (now : ℕ) (c : Course) → OfSession c.lines → OfSession (configures changed settings now c).lines
configures_is changed settings now c so =
    down_or_not (settings.down && not c.neighbour.settings.down) (c.neighbour.settings.down && not settings.down) changed now (with_settings settings c) so

-- ---- a connection, and what is sent

opened_in : (p : Line → Bool) (state : State) (now : ℕ) (c : Course) → c.neighbour.fsm.state ≡ state → list_all p c.lines ≡ true →
    list_all p (opens now c).lines ≡ true
unfolding takes
opened_in p states.Down now c is so = rw is (all_append p c.lines [] so refl)
opened_in p states.Idle now c is so = rw is (all_append p c.lines [] so refl)
opened_in p states.Connect now c is so = rw is (all_append p c.lines [] so refl)
opened_in p states.Active now c is so = rw is (all_append p c.lines [] so refl)
opened_in p states.OpenSent now c is so = rw is (all_append p c.lines [] so refl)
opened_in p states.OpenConfirm now c is so = rw is (all_append p c.lines [] so refl)
opened_in p states.Established now c is so = rw is (all_append p c.lines [] so refl)

-- a connection that stands reports nothing
pub opens_adds_nothing : (p : Line → Bool) (now : ℕ) (c : Course) → list_all p c.lines ≡ true → list_all p (opens now c).lines ≡ true
opens_adds_nothing p now c so = opened_in p c.neighbour.fsm.state now c refl so

sent_is : (peer : Addr) (bytes : List ℕ) → list_all is_sent_line (sent_lines peer bytes) ≡ true
sent_is peer [] = refl
sent_is peer (first ∷ others) = refl

-- a write reports what is sent
pub writes_is : (most : ℕ) (c : Course) → list_all is_sent_line c.lines ≡ true → list_all is_sent_line (writes most c).lines ≡ true
writes_is most c so =
    all_append is_sent_line c.lines (sent_lines c.neighbour.peer (take (taken most c.neighbour.outbox) c.neighbour.outbox.bytes)) so
    (sent_is c.neighbour.peer (take (taken most c.neighbour.outbox) c.neighbour.outbox.bytes))
