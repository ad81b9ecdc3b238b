use Rattle.std.proofs.Common.{◌+◌, IfOk, ap, subst}
use Rattle.session_core.specs.Calls.{Hears}
use Rattle.session_core.specs.Sessions.{Sessions}
use Rattle.session_core.proofs.Finishing.{heard_follows, hears}
use Rattle.session_core.proofs.session.Session.bytes.Goals as goal

pub returns-clause-gives : goal.returns-clause-gives
returns-clause-gives c =
    let i = c.self.inside in
    let old : Sessions = record { conf = i.conf; moment = i.moment; neighbours = i.neighbours; live = i.live; assembly = i.assembly; spent = i.spent } in
    subst (λ (core : Sessions). IfOk c.finish.result (λ done. Hears c.args.peer c.args.piece.now core c.finish.new.self done)) c.self.view_is
    (hears c.bytes-outcome.result c.finish.result c.args.peer c.args.piece.now _ c.bytes-outcome.new.self old c.finish.new.self c.nothing-done.result
    c.bytes-outcome.new.done (ap (λ n. n + 1) c.last-number.ensures) c.nothing-done.ensures c.bytes-outcome.ensures.ok c.finish.ensures)

pub returns-clause-history : goal.returns-clause-history
returns-clause-history c =
    heard_follows c.finish.result c.args.peer c.args.piece.now c.args.self.now c.finish.new.self (returns-clause-gives c)
