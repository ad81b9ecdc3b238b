use Rattle.std.proofs.Common.{refl}
use Rattle.peer_io.specs.Queue.{Queue}
use Rattle.peer_io.proofs.Connections.{pushed}
use Rattle.peer_io.proofs.outbox.Outbox.push.Goals as goal

pub returns-clause-ok : goal.returns-clause-ok
returns-clause-ok g c =
    let was : Queue = record { bytes = c.self.inside.bytes; waiting = c.self.inside.waiting.items; begun = c.self.inside.begun } in
    let new : Queue = record { bytes = c.note.new.bytes; waiting = c.note.new.waiting.items; begun = c.self.inside.begun } in
    pushed c.note.result (g.M.Outgoing.message c.args.message.now) was c.args.self.now new c.write.new.out c.len-held.result c.is_update.result
    c.self.view_is c.in_ok-write.ensures.ok c.len-held.ensures c.is_update.ensures c.in_ok-write.ensures.whole refl c.note.ensures.ok c.note.ensures.bytes
