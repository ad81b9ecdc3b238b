-- How the references of a table of attributes go with a step.
use Rattle.std.specs.Prelude.{◌≡◌, ℕ, ◌+◌, List, ◌++◌}
use Rattle.std.specs.List.{AllByRecursion}
use Rattle.attr_model.specs.Numbered.{Numbered}
use Rattle.attr_intern.specs.Table.{Table, uses_at, times, IsOf, CameFrom}

-- Where these references used the table before, those use it now, one use for each. All others, whatever they are, still come from
-- the table.
pub record Keeps (old new : Table) (before after : List Numbered) : Type 0 where
  pub uses : (number : ℕ) → uses_at new number + times number before ≡ uses_at old number + times number after
  pub came : (rest : List Numbered) → CameFrom old (before ++ rest) → CameFrom new (after ++ rest)

-- The same where a step may have lost uses: what is left comes from the table.
abbrev pub Stays : Table → Table → List Numbered → List Numbered → Type 0
Stays old new before after = (rest : List Numbered) → CameFrom old (before ++ rest) → CameFrom new (after ++ rest)

-- The uses of a table are exactly these references: each is of the table, and each number is used as often as it stands there.
pub record Accounts (table : Table) (ones : List Numbered) : Type 0 where
  pub each : AllByRecursion (IsOf table) ones
  pub uses : (number : ℕ) → uses_at table number ≡ times number ones
