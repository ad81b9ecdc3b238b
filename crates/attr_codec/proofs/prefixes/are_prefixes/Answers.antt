use Rattle.std.proofs.Common.{sym, refl, ap, ◌∙◌}
use Rattle.attr_codec.specs.Cut.{cut}
use Rattle.attr_codec.specs.Prefixes.{prefix_at}
use Rattle.attr_codec.proofs.Cutting.{cut_lost, cut_end, whole_more, some_items, not_empty}
use Rattle.attr_codec.proofs.Fields.{prefix_takes}
use Rattle.attr_codec.proofs.prefixes.are_prefixes.Goals as goal

pub returns-in_default : goal.returns-in_default
returns-in_default c =
    let short = ap (λ c. c.whole) (cut_lost (prefix_at c.args.family) (prefix_takes c.args.family) c.loop-left.left (not_empty c.loop-left.left c.loop-left-test.ensures.1) c.in_default.ensures) in
    sym (some_items (prefix_at c.args.family) (prefix_takes c.args.family) c.args.field.now _ (sym c.loop-left.invariant ∙ short))

pub loop-left-smaller : goal.loop-left-smaller
loop-left-smaller c = prefix_takes c.args.family c.loop-left.left (c.in-Ok.field-0, c.next_prefix.new.left) c.in-Ok.ensures

pub loop-left-preserved : goal.loop-left-preserved
loop-left-preserved c =
    sym (whole_more (prefix_at c.args.family) (prefix_takes c.args.family) c.loop-left.left c.in-Ok.field-0 c.next_prefix.new.left c.in-Ok.ensures) ∙ c.loop-left.invariant

pub returns : goal.returns
returns c =
    let all = ap (λ b. (cut (prefix_at c.args.family) b).whole) (c.loop-left-test.ensures.0 refl) ∙ ap (λ c. c.whole) (cut_end (prefix_at c.args.family)) in
    sym (some_items (prefix_at c.args.family) (prefix_takes c.args.family) c.args.field.now _ (sym c.loop-left.invariant ∙ all))
