use Rattle.std.proofs.Common.{◌≡◌, ◌+◌, ℕ, List, ◌++◌, ◌≤◌, length, take, subst, arith}
use Rattle.std.proofs.lemmas.Grind.{common_steps}
use Rattle.bgp_wire.specs.Message.{Message}
use Rattle.peer_io.specs.Queue.{Queue}
use Rattle.peer_io.specs.Sending.{Sends, updates_sent}
use Rattle.peer_io.proofs.Connections.{queue_more, written_ends, written_sends}
use Rattle.peer_io.proofs.outbox.Outbox.write.Goals as goal

few : (c : goal.After-pass-updates) → c.min-n.result ≤ length c.self.inside.bytes
few c = omega arith

front : (c : goal.After-pass-updates) → c.in_ok-bytes.bytes ≡ take c.min-n.result c.self.inside.bytes
front c = grind (arith, common_steps)

pub invariant_of-self : goal.invariant_of-self
invariant_of-self c =
    rw (c.take.ensures, c.pass-updates.ensures.waiting, c.pass-updates.ensures.begun)
    (queue_more c.self.inside.bytes c.self.inside.waiting.items c.self.inside.begun c.min-n.result (few c) c.self.invariant)

pub returns-clause-sends : goal.returns-clause-sends
returns-clause-sends c =
    let new : Queue = record { bytes = c.take.new.self; waiting = c.pass-updates.new.waiting.items; begun = c.pass-updates.new.begun } in
    subst (λ (old : Queue). (sent : List ℕ) (ms : List Message) → Sends old sent ms → Sends new (sent ++ c.in_ok-bytes.bytes) ms) c.self.view_is
    (written_sends (record { bytes = c.self.inside.bytes; waiting = c.self.inside.waiting.items; begun = c.self.inside.begun }) new
    c.min-n.result c.in_ok-bytes.bytes (few c) (front c) c.take.ensures c.pass-updates.ensures.waiting c.pass-updates.ensures.begun)

pub returns-clause-ends : goal.returns-clause-ends
returns-clause-ends c =
    subst (λ (old : Queue). (sent : List ℕ) (ms : List Message) → Sends old sent ms → updates_sent (sent ++ c.in_ok-bytes.bytes) ms ≡ updates_sent sent ms + c.pass-updates.result) c.self.view_is
    (written_ends (record { bytes = c.self.inside.bytes; waiting = c.self.inside.waiting.items; begun = c.self.inside.begun })
    c.min-n.result c.in_ok-bytes.bytes c.pass-updates.result (few c) (front c) c.pass-updates.ensures.updates)
