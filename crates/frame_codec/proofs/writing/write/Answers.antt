use Rattle.std.proofs.Common.{rules}
use Rattle.frame_codec.proofs.Payloads.{frame_there}
use Rattle.frame_codec.proofs.writing.write.Goals as goal

pub returns-clause-reads_back : goal.returns-clause-reads_back
returns-clause-reads_back c = frame_there c.args.frame.now (search rules)
