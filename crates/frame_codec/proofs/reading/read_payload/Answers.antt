use Rattle.std.proofs.Common.{arith}
use Rattle.frame_codec.proofs.Payloads.{read_fits}
use Rattle.frame_codec.proofs.reading.read_payload.Goals as goal

pub returns-clause-fits : goal.returns-clause-fits
returns-clause-fits c =
    read_fits c.args.number c.args.session c.args.payload.now c.read_frame.result (λ i. omega (arith, c.type_inv.payload i)) c.read_frame.ensures.frame
