use Rattle.imsg_wire.proofs.Stream.{frames_taken}
use Rattle.imsg_wire.proofs.reader.Reader.next.Goals as goal

pub returns-clause-frames : goal.returns-clause-frames
returns-clause-frames c = frames_taken c.args.self.now c.take_first.new.self c.take_first.result c.take_first.ensures
