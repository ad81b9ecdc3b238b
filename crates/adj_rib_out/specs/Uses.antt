-- What a call does to the uses of a table of attributes.
use Rattle.std.specs.Prelude.{◌≡◌, ℕ, ◌+◌, ◌<◌, List}
use Rattle.std.specs.List.{AllByRecursion}
use Rattle.attr_model.specs.Numbered.{Numbered}
use Rattle.attr_intern.specs.Table.{Table, uses_at, attrs_at, times, IsOf}

-- References that were held before a call go, and others are held behind it: each that went is one use less, each that came
-- one more. What is still in use stands for what it stood for.
pub record Moves (old new : Table) (before after : List Numbered) : Type 0 where
  pub uses : (number : ℕ) → uses_at new number + times number before ≡ uses_at old number + times number after
  pub stays : (number : ℕ) → 0 < uses_at new number → attrs_at new number ≡ attrs_at old number

-- the same, where each reference that is held behind it is of the table
pub record Trades (old new : Table) (before after : List Numbered) : Type 0 where
  pub moves : Moves old new before after
  pub each : AllByRecursion (IsOf new) after
