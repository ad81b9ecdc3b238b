use Rattle.attr_codec.proofs.Appends.{keeps_on, on_err}
use Rattle.attr_codec.proofs.put_path.put_segments.Goals as goal

pub returns-in_err-put_segment-clause-err : goal.returns-in_err-put_segment-clause-err
returns-in_err-put_segment-clause-err c =
    on_err _ _ (keeps_on c.args.out.now c.loop-segment.out c.put_segment.new.out _ c.loop-segment.invariant.so_far c.in_err-put_segment.ensures.err)
