use Rattle.std.proofs.Common.{◌≡◌, Option, Some, IfOk, subst}
use Rattle.net_base.specs.declared.addr.Addr.{Addr}
use Rattle.session_core.specs.Calls.{Gives, event_found}
use Rattle.session_core.specs.Sessions.{live_peer}
use Rattle.session_core.proofs.Finishing.{event_goes}
use Rattle.session_core.proofs.session.Session.session_event.Goals as goal

pub returns-in-Some-clause-refused : goal.returns-in-Some-clause-refused
returns-in-Some-clause-refused c =
    event_goes _ c.event.result c.args.self.now c.event.new.self c.requires.live (c.requires.free _) c.event.ensures.refused

pub returns-in-Some-clause-gives : goal.returns-in-Some-clause-gives
returns-in-Some-clause-gives c =
    let is : Some c.in-Some.peer ≡ live_peer c.args.session c.args.self.now.live = cc in
    subst (λ (o : Option Addr). IfOk c.event.result (λ done. Gives (event_found o c.args.event c.args.self.now) c.event.new.self done)) is c.event.ensures.gives
