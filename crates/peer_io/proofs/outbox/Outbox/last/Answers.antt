use Rattle.std.proofs.Common.{◌≡◌, ◌∙◌, ℕ, List, ◌++◌, take, sym, ap, arith}
use Rattle.std.proofs.lemmas.Grind.{common_steps}
use Rattle.bgp_wire.specs.Message.{message_bytes}
use Rattle.bgp_wire.specs.Written.{notification}
use Rattle.peer_io.specs.Queue.{rest_of}
use Rattle.peer_io.proofs.Connections.{sends_last}
use Rattle.peer_io.proofs.outbox.Outbox.last.Goals as goal

pub returns-clause-sends : goal.returns-clause-sends
returns-clause-sends c sent ms s =
    let e : c.extend_from_slice.new.self ≡ take (rest_of c.args.self.now.begun c.args.self.now.waiting) c.args.self.now.bytes ++ message_bytes (notification c.args.code c.args.sub) = grind (arith, common_steps) in
    ap (λ (x : List ℕ). sent ++ x) e ∙ sends_last c.args.self.now sent ms (notification c.args.code c.args.sub) s
