use Rattle.std.proofs.Common.{◌^◌}
use Rattle.event_text.proofs.Below.{below}
use Rattle.event_text.proofs.words.read_count.Goals as goal

pub returns-in-Ok : goal.returns-in-Ok
returns-in-Ok c = below (2 ^ 32) (2 ^ 32) c.args.word.now c.in-Ok.count c.in-Ok.ensures.grammar c.in-Ok.ensures.grammar.1
