use Rattle.std.proofs.Common.{sym, refl}
use Rattle.attr_codec.specs.Path.{segment_at}
use Rattle.attr_codec.proofs.Cutting.{cut_more, all_items_none, all_items_some, not_empty}
use Rattle.attr_codec.proofs.Fields.{segment_takes}
use Rattle.attr_codec.proofs.path.read_path.Goals as goal

pub returns-in_default : goal.returns-in_default
returns-in_default c =
    sym (all_items_none (segment_at c.args.as4) (segment_takes c.args.as4) c.loop-left.path c.loop-left.left c.args.value.now (not_empty c.loop-left.left c.loop-left-test.ensures.1) (rw c.in_default.is at c.in_ok-segment.ensures) c.loop-left.invariant)

pub loop-left-smaller : goal.loop-left-smaller
loop-left-smaller c =
    segment_takes c.args.as4 c.loop-left.left (c.in-Some.segment, c.next_segment.new.left) (rw c.in-Some.is at c.in_ok-segment.ensures)

pub loop-left-preserved : goal.loop-left-preserved
loop-left-preserved c =
    rw c.in_ok-push.ensures.ok (cut_more (segment_at c.args.as4) (segment_takes c.args.as4) c.loop-left.path c.loop-left.left c.in-Some.segment c.next_segment.new.left _ (rw c.in-Some.is at c.in_ok-segment.ensures) c.loop-left.invariant)

pub returns : goal.returns
returns c =
    sym (all_items_some (segment_at c.args.as4) (segment_takes c.args.as4) c.loop-left.path c.loop-left.left c.args.value.now (c.loop-left-test.ensures.0 refl) c.loop-left.invariant)
