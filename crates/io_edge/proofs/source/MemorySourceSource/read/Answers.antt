use Rattle.std.proofs.lemmas.List.{take_rest}
use Rattle.io_edge.proofs.Moves.{drop-moved}
use Rattle.io_edge.proofs.source.MemorySourceSource.read.Goals as goal

pub returns-clause-bytes : goal.returns-clause-bytes
returns-clause-bytes c =
    drop-moved c.args.self.now.bytes c.move_front-count.new.buf c.args.self.now.at c.move_front-count.result
    (simp (take_rest, c.as_slice.ensures) at c.move_front-count.ensures.moved)
