-- The rows that tables in memory hold.
use Rattle.std.specs.Prelude.{ℕ, List, []}
use Rattle.std.specs.Option.{option_map_or}
use Rattle.std.specs.Ordering.{nat_cmp}
use Rattle.std.specs.BTreeMap.{BTreeMap, get}

-- the rows of that table; one that was never set has none
abbrev pub rows_in : {P A : Type 0} → BTreeMap ℕ (BTreeMap P A) → ℕ → List (P × A)
rows_in tables table = option_map_or (λ rows. rows.entries) (get nat_cmp tables table) []
