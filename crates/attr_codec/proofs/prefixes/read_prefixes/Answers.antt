use Rattle.std.proofs.Common.{sym, refl}
use Rattle.attr_codec.specs.Prefixes.{prefix_at}
use Rattle.attr_codec.proofs.Cutting.{cut_more, all_items_none, all_items_some, not_empty}
use Rattle.attr_codec.proofs.Fields.{prefix_takes}
use Rattle.attr_codec.proofs.prefixes.read_prefixes.Goals as goal

pub returns-in_default : goal.returns-in_default
returns-in_default c =
    sym (all_items_none (prefix_at c.args.family) (prefix_takes c.args.family) c.loop-left.prefixes c.loop-left.left c.args.field.now (not_empty c.loop-left.left c.loop-left-test.ensures.1) c.in_default.ensures c.loop-left.invariant)

pub loop-left-smaller : goal.loop-left-smaller
loop-left-smaller c = prefix_takes c.args.family c.loop-left.left (c.in-Ok.prefix, c.next_prefix.new.left) c.in-Ok.ensures

pub loop-left-preserved : goal.loop-left-preserved
loop-left-preserved c =
    rw c.in_ok-push.ensures.ok (cut_more (prefix_at c.args.family) (prefix_takes c.args.family) c.loop-left.prefixes c.loop-left.left c.in-Ok.prefix c.next_prefix.new.left _ c.in-Ok.ensures c.loop-left.invariant)

pub returns : goal.returns
returns c =
    sym (all_items_some (prefix_at c.args.family) (prefix_takes c.args.family) c.loop-left.prefixes c.loop-left.left c.args.field.now (c.loop-left-test.ensures.0 refl) c.loop-left.invariant)
