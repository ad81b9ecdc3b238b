use Rattle.std.proofs.Common.{◌≡◌, ℕ}
use Rattle.std.specs.Map.{keys_of}
use Rattle.std.specs.Slice.Iter.{iter_rest}
use Rattle.kroute.specs.Tables.{table_at}
use Rattle.parent_core.proofs.Taking.{dropped}
use Rattle.parent_core.proofs.kernel_tables.drop_others.Given as goal

-- the tables without those that are left to be looked at and aren't kept are the same all along
abbrev pub invariant-loop-number : goal.invariant-loop-number
invariant-loop-number l =
    ((n : ℕ) → dropped l.kept (iter_rest l.number-iterator) (table_at l.tables n) n ≡ dropped l.kept (keys_of l.fn.tables.tables) (table_at l.fn.tables n) n)
    × (l.tables.arranged ≡ l.fn.tables.arranged)
