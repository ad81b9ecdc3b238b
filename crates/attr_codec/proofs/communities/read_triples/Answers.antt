use Rattle.attr_codec.specs.Large.{large_at}
use Rattle.attr_codec.proofs.Cutting.{items_more, items_done}
use Rattle.attr_codec.proofs.Fields.{large_takes}
use Rattle.attr_codec.proofs.communities.read_triples.Goals as goal

pub loop-large-smaller : goal.loop-large-smaller
loop-large-smaller c = large_takes c.loop-large.left (c.in-Ok.large, c.next_large.new.left) c.in-Ok.ensures

pub loop-large-preserved : goal.loop-large-preserved
loop-large-preserved c =
    rw c.in_ok-push.ensures.items (items_more large_at large_takes c.loop-large.list.items c.loop-large.left c.in-Ok.large c.next_large.new.left _ c.in-Ok.ensures c.loop-large.invariant)

pub returns : goal.returns
returns c = items_done large_at large_takes c.loop-large.list.items c.loop-large.left _ c.in_default.ensures c.loop-large.invariant
