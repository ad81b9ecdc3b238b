use Rattle.std.proofs.Common.{refl, arith}
use Rattle.bgp_wire.specs.Message.{header_of, BeginsMessage}
use Rattle.bgp_wire.proofs.Stream.{good_size}
use Rattle.update_codec.proofs.holding.next_message.Goals as goal

pub split_at-requires : goal.split_at-requires
split_at-requires c =
    let found : BeginsMessage c.args.left.now c.in-Message.kind c.in-Message.length = (c.in-Message.ensures.message c.in-Message.kind c.in-Message.length).0 refl in
    omega (arith, found.whole)

pub split_at-requires-in-Message : goal.split_at-requires-in-Message
split_at-requires-in-Message c =
    let found : BeginsMessage c.args.left.now c.in-Message.kind c.in-Message.length = (c.in-Message.ensures.message c.in-Message.kind c.in-Message.length).0 refl in
    let good = good_size (header_of c.args.left.now) found.good in
    omega (arith, found.whole, found.size, good.0, c.split_at.ensures.front_len)
