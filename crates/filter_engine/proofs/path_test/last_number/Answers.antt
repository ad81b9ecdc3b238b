use Rattle.std.proofs.Common.{◌∙◌, ap}
use Rattle.std.specs.Option.{option_or}
use Rattle.filter_engine.specs.Conditions.{path_numbers}
use Rattle.filter_engine.specs.Wanted.{last_of}
use Rattle.std.proofs.Common.{drop, ◌+◌}
use Rattle.filter_engine.proofs.LastNumber.{segment_more}
use Rattle.filter_engine.proofs.path_test.last_number.Goals as goal

pub loop-segment-preserved : goal.loop-segment-preserved
loop-segment-preserved c =
    ap (option_or (last_of (path_numbers (drop (c.loop-segment.segment-index + 1) c.args.path.now)))) c.or-last.ensures
    ∙ (segment_more c.args.path.now c.loop-segment.segment-index c.segment-item.result c.last_in.result c.loop-segment.last c.loop-segment-test.true c.segment-item.is (c.last_in.ensures ∙ ap last_of c.numbers.ensures)
    ∙ c.loop-segment.invariant)
