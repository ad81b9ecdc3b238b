-- What taking an event does, step by step.
use Rattle.std.proofs.Common.{◌≡◌, ◌∙◌, ℕ, Bool, false, ◌&&◌, not, List, ◌++◌, refl, ap, sym}
use Rattle.net_base.specs.declared.addr.Addr.{Addr}
use Rattle.session_fsm.specs.declared.event.Actions.{Actions}
use Rattle.session_fsm.specs.declared.event.SessionEvent.{SessionEvent}
use Rattle.session_fsm.specs.Table.{follows}
use Rattle.bgp_wire.specs.declared.open.OpenRules.{OpenRules}
use Rattle.bgp_wire.specs.Written.{keepalive, open_by}
use Rattle.core_msgs.specs.declared.answer.Line.{Line}
use Rattle.core_msgs.specs.declared.frame.Done.{Done}
use Rattle.peer_session.specs.declared.neighbour.Reason.{Reason}
use Rattle.peer_session.specs.declared.neighbour.Settings.{Settings}
use Rattle.peer_session.specs.Neighbour.{Does, Neighbour, course, is_connected, reports, sends_where}
use Rattle.peer_session.specs.Steps.{connect_lines, ends_where, takes}
use Rattle.peer_session.specs.Calls.{comes_back_where, configures, ends_for_rules}

pub take_does : (event : SessionEvent) (reason : Reason) (now : ℕ) (old followed opened kept new : Neighbour) (before behind : Done)
    (told : List Line) (a : Actions) (peer : Addr) (rules : OpenRules) (stood is_ended : Bool) →
    peer ≡ old.peer → rules ≡ old.settings.rules → stood ≡ is_connected old →
    followed ≡ record old { fsm = (follows old.fsm event now).peer } → a ≡ (follows old.fsm event now).actions →
    is_ended ≡ (stood && not (is_connected followed)) →
    opened ≡ sends_where a.send_open (open_by rules) followed → kept ≡ sends_where a.keepalive keepalive opened →
    Does (ends_where is_ended reason a) kept new before behind → told ≡ behind.lines ++ connect_lines a.connect peer →
    Does (takes event reason now) old new before (record { lines = told; frames = behind.frames })
unfolding takes
take_does event reason now old followed opened kept new before behind told a peer rules stood is_ended
    peer-is rules-is stood-is followed-is a-is ended-is opened-is kept-is does told-is =
    let last : course new (record { lines = told; frames = behind.frames }) ≡ reports (connect_lines a.connect peer) (course new behind) = rw told-is refl in
    last ∙ ap (reports (connect_lines a.connect peer)) does
    ∙ rw (kept-is, opened-is, ended-is, followed-is, stood-is, peer-is, rules-is, a-is) refl

pub configure_does : (wanted changed goes_down comes_back : Bool) (was settings : Settings) (now : ℕ) (old set mid new : Neighbour)
    (before between behind : Done) →
    was ≡ old.settings → goes_down ≡ (settings.down && not was.down) → comes_back ≡ (was.down && not settings.down) → changed ≡ wanted →
    set ≡ record old { settings = settings; fsm = record old.fsm { passive = settings.passive } } → goes_down ≡ false →
    Does (comes_back_where comes_back now) set mid before between → Does (ends_for_rules changed now) mid new between behind →
    Does (configures wanted settings now) old new before behind
configure_does wanted changed goes_down comes_back was settings now old set mid new before between behind
    was-is down-is back-is changed-is set-is stays one two =
    let first : course new behind ≡ ends_for_rules changed now (comes_back_where comes_back now (course set before)) =
    two ∙ ap (ends_for_rules changed now) one in
    let kept : (settings.down && not old.settings.down) ≡ false =
    ap (λ (s : Settings). settings.down && not s.down) (sym was-is) ∙ sym down-is ∙ stays in
    first ∙ rw (set-is, back-is, was-is, changed-is, kept) refl
