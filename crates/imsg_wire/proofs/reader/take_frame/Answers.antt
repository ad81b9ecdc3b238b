use Rattle.imsg_wire.proofs.Fronts.{payload_cut}
use Rattle.imsg_wire.proofs.reader.take_frame.Goals as goal

pub returns-clause-frame : goal.returns-clause-frame
returns-clause-frame c =
    payload_cut c.args.header c.args.held.now c.in_ok-payload.payload c.requires.low (rw (← c.from-size.ensures, ← c.peek.ensures) c.in_ok-payload.ensures)
