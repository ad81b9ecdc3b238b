use Rattle.imsg_wire.proofs.Fronts.{frame_put}
use Rattle.imsg_wire.proofs.writing.put_frame.Goals as goal

pub returns-clause-ok : goal.returns-clause-ok
returns-clause-ok c =
    frame_put (record { kind = c.args.kind; peer = c.args.peer; pid = c.args.pid; payload = c.args.payload.now }) c.args.out.now c.header_as_bytes.result c.push.new.self c.push-2.new.self
    c.header_as_bytes.ensures c.in_ok-push.ensures.ok c.in_ok-push-2.ensures.ok
