use Rattle.std.proofs.Common.{◌-◌, ◌≤◌, length}
use Rattle.roa_check.specs.Index.{AreBefore, NoneBefore}
use Rattle.roa_check.proofs.index.CoverIndex.count_before.Given as goal

-- what is in front comes before, and what is behind doesn't
abbrev pub invariant-loop-low : goal.invariant-loop-low
invariant-loop-low l = record {
  between : l.low ≤ l.high;
  within : l.high ≤ length l.self;
  front : AreBefore l.self l.slot l.low;
  back : NoneBefore l.self l.slot l.high;
}

abbrev pub decreases-loop-low : goal.decreases-loop-low
decreases-loop-low l = l.high - l.low
