use Rattle.std.proofs.Common.{◌≡◌, ◌<◌, ◌≤◌, ℕ}
use Rattle.attr_intern.specs.Table.{CameFrom}
use Rattle.rib_multi.specs.Rows.{IsEmptyRib, rib_at}
use Rattle.rib_multi.specs.Uses.{refs_of, Moves}
use Rattle.rib_multi.proofs.ribs.RibMulti.shrink.Given as goal

-- The RIBs from the number on and below this one are empty, those below the number stay, and what was kept went back.
abbrev pub invariant-loop-number : goal.invariant-loop-number
invariant-loop-number l = record {
  stay : (number : ℕ) → number < l.ribs → rib_at l.self number ≡ rib_at l.fn.self number;
  gone : (number : ℕ) → l.ribs ≤ number → number < l.number → IsEmptyRib (rib_at l.self number);
  uses : Moves l.fn.table l.table (refs_of l.fn.self) (refs_of l.self);
  came : CameFrom l.table (refs_of l.self);
}
