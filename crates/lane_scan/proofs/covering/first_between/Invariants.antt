use Rattle.std.proofs.Common.{◌≡◌, ◌≤◌, ◌<◌, ℕ, false}
use Rattle.lane_scan.specs.Covering.{covers_at}
use Rattle.lane_scan.proofs.covering.first_between.Given as goal

abbrev pub invariant-loop-at : goal.invariant-loop-at
invariant-loop-at l = (k : ℕ) → l.from ≤ k → k < l.at → covers_at l.columns l.slot k ≡ false
