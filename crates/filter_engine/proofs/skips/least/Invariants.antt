use Rattle.std.proofs.Common.{◌≤◌, ◌<◌, ℕ, get_or}
use Rattle.filter_engine.proofs.skips.least.Given as goal

abbrev pub invariant-loop-place : goal.invariant-loop-place
invariant-loop-place l = record {
  low : (k : ℕ) → k < l.place-index → l.least ≤ get_or l.places k 0;
  high : (from : ℕ) → from ≤ l.count → ((k : ℕ) → k < 10 → from ≤ get_or l.places k 0) → from ≤ l.least;
  within : l.least ≤ l.count;
}
