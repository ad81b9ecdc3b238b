use Rattle.std.proofs.Common.{◌≡◌, ◌≤◌, ◌<◌, ℕ, false}
use Rattle.lane_scan.specs.Covering.{covers_at}
use Rattle.roa_check.proofs.index.CoverIndex.climb.Given as goal

-- those that were passed over don't cover
abbrev pub invariant-loop-count : goal.invariant-loop-count
invariant-loop-count l = record {
  fewer : l.count ≤ l.fn.count;
  none_behind : (k : ℕ) → l.count ≤ k → k < l.fn.count → covers_at l.self l.slot k ≡ false;
}

abbrev pub decreases-loop-count : goal.decreases-loop-count
decreases-loop-count l = l.count
