use Rattle.attr_codec.specs.Width.{IsLarge}
use Rattle.attr_codec.specs.Written.{large_bytes}
use Rattle.attr_codec.proofs.Appends.{bytes_more, all_more}
use Rattle.attr_codec.proofs.put.put_larges.Goals as goal

pub loop-large-preserved : goal.loop-large-preserved
loop-large-preserved c = record {
  so_far = bytes_more large_bytes c.args.out.now c.loop-large.out c.put_large.new.out c.args.larges.now c.loop-large.large-index _ c.loop-large-test.true c.loop-large.invariant.so_far c.in_ok-put_large.ensures.ok;
  width = all_more IsLarge c.args.larges.now c.loop-large.large-index _ c.loop-large-test.true c.loop-large.invariant.width c.in_ok-put_large.ensures.width;
}
