use Rattle.std.proofs.Common.{◌≡◌, ℕ}
use Rattle.std.specs.Slice.Iter.{iter_rest}
use Rattle.kroute.specs.Tables.{table_at}
use Rattle.parent_core.proofs.Taking.{taken_where}
use Rattle.parent_core.proofs.kernel_tables.take_all.Given as goal

-- the tables with those that are left taken up are the same all along
abbrev pub invariant-loop-number : goal.invariant-loop-number
invariant-loop-number l =
    ((n : ℕ) → taken_where l.switched l.on (iter_rest l.number-iterator) (table_at l.tables n) n ≡ taken_where l.switched l.on l.numbers (table_at l.fn.tables n) n)
    × (l.tables.arranged ≡ l.fn.tables.arranged)
