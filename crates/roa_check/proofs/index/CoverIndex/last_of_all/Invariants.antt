use Rattle.std.proofs.Common.{◌≤◌, ◌-◌, length}
use Rattle.roa_check.specs.Index.{IsLastCovering}
use Rattle.roa_check.proofs.index.CoverIndex.last_of_all.Given as goal

abbrev pub invariant-loop-at : goal.invariant-loop-at
invariant-loop-at l = record {
  within : l.from ≤ length l.self;
  so_far : IsLastCovering l.self l.slot l.from l.last;
}

abbrev pub decreases-loop-at : goal.decreases-loop-at
decreases-loop-at l = length l.self - l.from
