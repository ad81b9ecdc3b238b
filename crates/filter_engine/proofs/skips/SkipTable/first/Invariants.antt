use Rattle.std.proofs.Common.{◌≡◌, ℕ, ◌<◌, get_or, length}
use Rattle.filter_engine.specs.Skips.{IsNext}
use Rattle.filter_engine.proofs.skips.SkipTable.first.Given as goal

abbrev pub invariant-loop-i : goal.invariant-loop-i
invariant-loop-i l = record {
  done : (k : ℕ) → k < l.i → IsNext l.self.buckets.items (get_or l.asked k 0) 0 (get_or l.places k 0);
  long : length l.places ≡ 10;
}
