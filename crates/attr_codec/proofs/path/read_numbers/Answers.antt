use Rattle.wire_buf.specs.Field.{number_at}
use Rattle.attr_codec.specs.Path.{as_size}
use Rattle.attr_codec.proofs.Cutting.{items_more, items_done}
use Rattle.attr_codec.proofs.Fields.{as_takes}
use Rattle.attr_codec.proofs.path.read_numbers.Goals as goal

pub loop-number-preserved : goal.loop-number-preserved
loop-number-preserved c =
    rw c.in_ok-push.ensures.ok (items_more (number_at (as_size c.args.as4)) (as_takes c.args.as4) c.loop-number.numbers c.loop-number.left c.in-Ok.number c.next_number.new.left _ c.in-Ok.ensures c.loop-number.invariant)

pub returns : goal.returns
returns c = items_done (number_at (as_size c.args.as4)) (as_takes c.args.as4) c.loop-number.numbers c.loop-number.left _ c.in_default.ensures.0 c.loop-number.invariant
