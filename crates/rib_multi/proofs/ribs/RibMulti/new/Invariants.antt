use Rattle.std.proofs.Common.{◌≡◌, ◌≤◌, ◌-◌, ℕ, [], length}
use Rattle.rib_multi.specs.Rows.{IsEmptyRib, rib_at}
use Rattle.rib_multi.specs.Uses.{refs_of}
use Rattle.rib_multi.proofs.ribs.RibMulti.new.Given as goal

-- The RIBs that were made are empty and keep nothing.
abbrev pub invariant-loop-ribs : goal.invariant-loop-ribs
invariant-loop-ribs l = record {
  count : length l.ribs.items ≤ 16;
  refs : refs_of l.ribs.items ≡ [];
  empty : (number : ℕ) → IsEmptyRib (rib_at l.ribs.items number);
}

abbrev pub decreases-loop-ribs : goal.decreases-loop-ribs
decreases-loop-ribs l = 16 - length l.ribs.items
