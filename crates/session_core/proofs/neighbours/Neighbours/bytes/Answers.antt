use Rattle.std.proofs.Common.{◌≡◌, sym, subst}
use Rattle.std.specs.Prelude.{OnOk}
use Rattle.peer_session.specs.Calls.{Refuses}
use Rattle.session_core.specs.Courses.{HandlesAt, courses}
use Rattle.session_core.specs.Events.{bytes_refusal}
use Rattle.session_core.specs.Sessions.{Peers, peer_at}
use Rattle.session_core.proofs.Meeting.{heard_ok, heard_refused}
use Rattle.session_core.proofs.neighbours.Neighbours.bytes.Goals as goal

pub returns-clause-ok : goal.returns-clause-ok
returns-clause-ok c =
    subst (λ (old : Peers). OnOk c.bytes.result (HandlesAt c.args.peer c.args.piece.now c.args.number c.args.now (courses old c.args.done.now)
    (courses (c.get_mut.follows.lender c.bytes.new.self).entries c.bytes.new.done))) c.self.view_is
    (heard_ok c.bytes.result c.args.peer c.args.piece.now c.args.number c.args.now c.in-Some.neighbour.now c.bytes.new.self
    c.self.inside.by_address.entries (c.get_mut.follows.lender c.bytes.new.self).entries c.args.done.now c.bytes.new.done
    (sym c.in-Some.ensures.value) (c.get_mut.follows.holds c.bytes.new.self).0 c.bytes.ensures.ok)

pub returns-clause-refused : goal.returns-clause-refused
returns-clause-refused c =
    subst (λ (old : Peers). Refuses (bytes_refusal (peer_at c.args.peer old)) (courses (c.get_mut.follows.lender c.bytes.new.self).entries c.bytes.new.done ≡ courses old c.args.done.now) c.bytes.result) c.self.view_is
    (heard_refused c.args.peer c.in-Some.neighbour.now c.bytes.new.self
    c.self.inside.by_address.entries (c.get_mut.follows.lender c.bytes.new.self).entries c.args.done.now c.bytes.new.done c.bytes.result
    (sym c.in-Some.ensures.value) (c.get_mut.follows.holds c.bytes.new.self).0 c.bytes.ensures.refused)
