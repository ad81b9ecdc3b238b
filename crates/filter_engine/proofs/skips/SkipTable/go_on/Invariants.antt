use Rattle.std.proofs.Common.{ℕ, ◌+◌, ◌≤◌, ◌<◌, get_or}
use Rattle.filter_engine.specs.Skips.{IsNext}
use Rattle.filter_engine.proofs.skips.SkipTable.go_on.Given as goal

abbrev pub invariant-loop-i : goal.invariant-loop-i
invariant-loop-i l = record {
  done : (k : ℕ) → k < l.i → IsNext l.self.buckets.items (get_or l.asked k 0) (l.at + 1) (get_or l.places k 0);
  left : (k : ℕ) → l.i ≤ k → k < 10 → IsNext l.self.buckets.items (get_or l.asked k 0) l.at (get_or l.places k 0);
}
