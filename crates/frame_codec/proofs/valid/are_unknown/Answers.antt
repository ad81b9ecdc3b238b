use Rattle.std.proofs.Common.{◌≡◌, true, false}
use Rattle.frame_codec.specs.Lists.{may_follow}
use Rattle.frame_codec.proofs.Unknown.{rise_more, rise_none, rise_all}
use Rattle.frame_codec.proofs.valid.are_unknown.Goals as goal

pub returns-then-not-may_follow : goal.returns-then-not-may_follow
returns-then-not-may_follow c =
    let no : false ≡ may_follow c.loop-kind.least c.loop-kind-item.result.0 = cc in
    rise_none c.loop-kind.least c.loop-kind.kind-index c.args.unknown.now c.loop-kind-item.result c.loop-kind-test.true c.loop-kind-item.is c.loop-kind.invariant no

pub loop-kind-preserved : goal.loop-kind-preserved
loop-kind-preserved c =
    let yes : true ≡ may_follow c.loop-kind.least c.loop-kind-item.result.0 = cc in
    rise_more c.loop-kind.least c.from-least.result c.loop-kind.kind-index c.args.unknown.now c.loop-kind-item.result c.loop-kind-test.true c.loop-kind-item.is c.loop-kind.invariant yes c.from-least.ensures

pub returns : goal.returns
returns c = rise_all c.loop-kind.least c.loop-kind.kind-index c.args.unknown.now c.loop-kind-test.false c.loop-kind.invariant
