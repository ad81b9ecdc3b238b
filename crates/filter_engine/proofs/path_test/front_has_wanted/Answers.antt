use Rattle.std.proofs.Common.{◌∙◌, ap, sym, take}
use Rattle.filter_engine.specs.Wanted.{is_wanted}
use Rattle.filter_engine.proofs.FrontNumbers.{found_here, not_here}
use Rattle.filter_engine.proofs.path_test.front_has_wanted.Goals as goal

pub returns-then-has_wanted : goal.returns-then-has_wanted
returns-then-has_wanted g c =
    found_here (is_wanted (g.M.Members.conf_of c.args.sets.now) c.args.wanted) c.args.path.now c.loop-segment.segment-index c.loop-segment.left c.segment-item.result c.front-numbers.result.now c.loop-segment-test.true c.segment-item.is (c.front-numbers.ensures ∙ ap (take c.loop-segment.left) c.numbers.ensures) (sym c.has_wanted.ensures ∙ c.if-has_wanted.true)
    ∙ c.loop-segment.invariant

pub loop-segment-preserved : goal.loop-segment-preserved
loop-segment-preserved g c =
    not_here (is_wanted (g.M.Members.conf_of c.args.sets.now) c.args.wanted) c.args.path.now c.loop-segment.segment-index c.loop-segment.left c.segment-item.result c.front-numbers.result.now c.loop-segment-test.true c.segment-item.is (c.front-numbers.ensures ∙ ap (take c.loop-segment.left) c.numbers.ensures) (sym c.has_wanted.ensures ∙ c.if-has_wanted.false)
    ∙ c.loop-segment.invariant
