use Rattle.std.proofs.Common.{IfOk, subst}
use Rattle.session_core.specs.Calls.{Gives, Refuses, event_reply, refused_by}
use Rattle.session_core.specs.Events.{refusal_at}
use Rattle.session_core.specs.Sessions.{Sessions, peer_at}
use Rattle.session_core.proofs.Finishing.{event_gives, event_refuses}
use Rattle.session_core.proofs.session.Session.event.Goals as goal

pub returns-clause-refused : goal.returns-clause-refused
returns-clause-refused c =
    let i = c.self.inside in
    let old : Sessions = record { conf = i.conf; moment = i.moment; neighbours = i.neighbours; live = i.live; assembly = i.assembly; spent = i.spent } in
    subst (λ (core : Sessions). Refuses (refused_by core (refusal_at c.args.event (peer_at c.args.peer core.neighbours))) core c.finish.new.self c.finish.result) c.self.view_is
    (event_refuses c.args.event (peer_at c.args.peer i.neighbours) c.happen-outcome.result c.finish.result c.happen-outcome.new.self old c.finish.new.self
    c.nothing-done.result c.happen-outcome.new.done c.if-self.false c.happen-outcome.ensures.refused c.finish.ensures)

pub returns-clause-gives : goal.returns-clause-gives
returns-clause-gives c =
    let i = c.self.inside in
    let old : Sessions = record { conf = i.conf; moment = i.moment; neighbours = i.neighbours; live = i.live; assembly = i.assembly; spent = i.spent } in
    subst (λ (core : Sessions). IfOk c.finish.result (λ done. Gives (event_reply c.args.peer c.args.event core) c.finish.new.self done)) c.self.view_is
    (event_gives c.args.peer c.args.event c.happen-outcome.result c.finish.result c.happen-outcome.new.self old c.finish.new.self
    c.nothing-done.result c.happen-outcome.new.done c.nothing-done.ensures c.happen-outcome.ensures.ok c.finish.ensures)
