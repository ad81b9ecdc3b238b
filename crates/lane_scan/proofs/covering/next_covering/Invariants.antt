use Rattle.std.proofs.Common.{◌≡◌, ◌≤◌, ◌<◌, ◌-◌, ℕ, false, length}
use Rattle.lane_scan.specs.Covering.{covers_at}
use Rattle.lane_scan.proofs.covering.next_covering.Given as goal

abbrev pub invariant-loop-at : goal.invariant-loop-at
invariant-loop-at l = record {
  behind : l.from ≤ l.at;
  inside : l.at ≤ length l.columns;
  none_before : (k : ℕ) → l.from ≤ k → k < l.at → covers_at l.columns (record { bits = l.bits; len = l.len }) k ≡ false;
}

abbrev pub decreases-loop-at : goal.decreases-loop-at
decreases-loop-at l = length l.columns - l.at
