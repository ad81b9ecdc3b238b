use Rattle.std.proofs.Common.{lit<}
use Rattle.wire_buf.specs.Field.{number_at}
use Rattle.attr_codec.proofs.Cutting.{items_more, items_done}
use Rattle.attr_codec.proofs.Fields.{number_takes}
use Rattle.attr_codec.proofs.communities.read_numbers.Goals as goal

pub loop-community-preserved : goal.loop-community-preserved
loop-community-preserved c =
    rw c.in_ok-push.ensures.items (items_more (number_at 4) (number_takes 4 (lit< tt)) c.loop-community.list.items c.loop-community.left c.in-Ok.community c.u32.new.self _ c.in-Ok.ensures c.loop-community.invariant)

pub returns : goal.returns
returns c = items_done (number_at 4) (number_takes 4 (lit< tt)) c.loop-community.list.items c.loop-community.left _ c.in_default.ensures.0 c.loop-community.invariant
