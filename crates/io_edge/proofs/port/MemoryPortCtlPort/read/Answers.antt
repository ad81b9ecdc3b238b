use Rattle.std.proofs.Common.{ap, Some}
use Rattle.std.proofs.lemmas.List.{take_rest}
use Rattle.io_edge.proofs.Moves.{drop-moved}
use Rattle.io_edge.proofs.port.MemoryPortCtlPort.read.Goals as goal

pub returns-clause-bytes : goal.returns-clause-bytes
returns-clause-bytes c =
    ap Some (drop-moved c.args.self.now.answers c.move_front-count.new.buf c.args.self.now.at c.move_front-count.result
    (simp (take_rest, c.as_slice.ensures) at c.move_front-count.ensures.moved))
