use Rattle.std.proofs.Common.{sym, ◌∙◌}
use Rattle.attr_codec.specs.Unknown.{unknown_of}
use Rattle.attr_codec.proofs.Kept.{none_from, none_until, one_more}
use Rattle.attr_codec.proofs.unknown.unknown.Goals as goal

pub loop-kind-init : goal.loop-kind-init
loop-kind-init c = rw c.new-list.ensures (none_from c.kept-kinds.result.from c.args.field.now c.kept-kinds.ensures.below)

pub loop-kind-preserved : goal.loop-kind-preserved
loop-kind-preserved c = rw (one_more c.loop-kind.kind _, ← c.loop-kind.invariant) c.in_ok-push_kept.ensures

pub returns : goal.returns
unfolding unknown_of
returns c =
    let to = c.kept-kinds.result.to in
    c.loop-kind.invariant ∙ none_until to c.loop-kind.kind c.args.field.now c.loop-kind-test.false c.kept-kinds.ensures.above ∙ sym (none_until to 256 c.args.field.now c.kept-kinds.ensures.high c.kept-kinds.ensures.above)
