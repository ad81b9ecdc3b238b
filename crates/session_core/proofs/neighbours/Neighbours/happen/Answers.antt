use Rattle.std.proofs.Common.{◌≡◌, sym, subst}
use Rattle.peer_session.specs.Calls.{Refuses}
use Rattle.session_core.specs.Courses.{courses}
use Rattle.session_core.specs.Events.{refusal_at}
use Rattle.session_core.specs.Sessions.{Peers, peer_at}
use Rattle.session_core.proofs.Meeting.{event_refused}
use Rattle.session_core.proofs.neighbours.Neighbours.happen.Goals as goal

pub returns-clause-refused : goal.returns-clause-refused
returns-clause-refused c =
    subst (λ (old : Peers). Refuses (refusal_at c.args.event (peer_at c.args.peer old)) (courses (c.get_mut.follows.lender c.happen.new.neighbour).entries c.happen.new.done ≡ courses old c.args.done.now) c.happen.result) c.self.view_is
    (event_refused c.args.event c.args.peer c.in-Some.neighbour.now c.happen.new.neighbour
    c.self.inside.by_address.entries (c.get_mut.follows.lender c.happen.new.neighbour).entries c.args.done.now c.happen.new.done c.happen.result
    (sym c.in-Some.ensures.value) (c.get_mut.follows.holds c.happen.new.neighbour).0 c.happen.ensures.refused)
