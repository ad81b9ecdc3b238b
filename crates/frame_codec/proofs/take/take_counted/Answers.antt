use Rattle.std.proofs.Common.{arith}
use Rattle.frame_codec.specs.Fields.{exact_prefix_at}
use Rattle.frame_codec.proofs.Taken.{taken_more, taken_all, taken_fault}
use Rattle.frame_codec.proofs.take.take_counted.Goals as goal

pub returns-in_err-prefix : goal.returns-in_err-prefix
returns-in_err-prefix c =
    taken_fault (exact_prefix_at c.args.family) c.args.count c.loop-i.i c.args.left.now c.loop-i.left c.take_prefix.new.left c.take_prefix.new.left c.loop-i.prefixes c.in_err-prefix.field-0.0 c.from_residual.result
    (omega arith) c.loop-i.invariant c.in_err-prefix.ensures c.from_residual.ensures.1

pub loop-i-preserved : goal.loop-i-preserved
loop-i-preserved c =
    taken_more (exact_prefix_at c.args.family) c.args.count c.loop-i.i c.args.left.now c.loop-i.left c.take_prefix.new.left c.loop-i.prefixes c.push.new.self c.in_ok-prefix.prefix
    (omega arith) c.loop-i.invariant c.in_ok-prefix.ensures c.in_ok-push.ensures.ok

pub returns : goal.returns
returns c = taken_all (exact_prefix_at c.args.family) c.args.count c.loop-i.i c.args.left.now c.loop-i.left c.loop-i.prefixes (omega arith) c.loop-i.invariant
