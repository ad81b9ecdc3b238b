use Rattle.std.proofs.Common.{◌^◌, arith}
use Rattle.event_text.proofs.Below.{below, not_below}
use Rattle.event_text.proofs.words.read_moment.Goals as goal

pub returns-in-Ok : goal.returns-in-Ok
returns-in-Ok c = below (2 ^ 64) (2 ^ 63) c.args.word.now c.in-Ok.moment c.in-Ok.ensures.grammar (omega (arith, c.if-moment-lt-MOMENT_LIMIT.true))

pub returns-in-Ok-2 : goal.returns-in-Ok-2
returns-in-Ok-2 c =
    not_below (2 ^ 64) (2 ^ 63) c.args.word.now c.in-Ok.moment c.in-Ok.ensures.grammar (omega (arith, c.if-moment-lt-MOMENT_LIMIT.false))
