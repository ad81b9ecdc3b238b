use Rattle.std.proofs.Common.{below_more, arith}
use Rattle.filter_engine.proofs.skips.least.Goals as goal

pub loop-place-preserved : goal.loop-place-preserved
loop-place-preserved c =
    let before = c.loop-place.invariant in record {
      low = below_more _ _ (λ k h. omega (arith, before.low k h, c.min-least.ensures)) (omega (arith, c.min-least.ensures));
      high = λ from below all. omega (arith, before.high from below all, all c.loop-place.place-index c.loop-place-test.true, c.min-least.ensures);
      within = omega (arith, before.within, c.min-least.ensures);
    }
