-- What a table of attributes tells of each number: the attributes that it stands for, and how many references use it.
use Rattle.std.specs.Prelude.{◌≡◌, ℕ, ◌+◌, ◌<◌, ◌≤◌, ◌==◌, List, Option, Some, None, count_by, is_some, slice_index_or, option_map, unwrap_or}
use Rattle.std.specs.List.{AllByRecursion}
use Rattle.attr_model.specs.declared.attrs.Attrs.{Attrs}
use Rattle.attr_model.specs.Numbered.{Numbered}
use Rattle.attr_intern.specs.declared.table.Shared.{Shared}

-- what stands under each number from 0 on
abbrev pub Table : Type 0
Table = List (Option Shared)

abbrev pub shared_at : Table → ℕ → Option Shared
shared_at table number = slice_index_or table number None

-- the attributes that a number in use stands for
abbrev pub attrs_at : Table → ℕ → Option Attrs
attrs_at table number = option_map (λ shared. shared.attrs) (shared_at table number)

-- how many references use a number
abbrev pub uses_at : Table → ℕ → ℕ
uses_at table number = unwrap_or (option_map (λ shared. shared.uses) (shared_at table number)) 0

-- how many numbers are in use
abbrev pub distinct_of : Table → ℕ
distinct_of table = count_by is_some table

-- ---- references and the table that they came from

-- how often a number stands among references
abbrev pub times : ℕ → List Numbered → ℕ
times number ones = count_by (λ one. one.number == number) ones

-- A reference is of a table where its number stands there for its attributes.
abbrev pub IsOf : Table → Numbered → Type 0
IsOf table one = attrs_at table one.number ≡ Some one.attrs

-- References came from a table, all at once, where each is of it and it counts at least these uses.
pub record CameFrom (table : Table) (ones : List Numbered) : Type 0 where
  pub each : AllByRecursion (IsOf table) ones
  pub uses : (number : ℕ) → times number ones ≤ uses_at table number

-- Equal numbers stand for equal attributes as it is; here, equal attributes have one number.
abbrev pub HasOneNumberEach : Table → Type 0
HasOneNumberEach table = (m n : ℕ) (attrs : Attrs) → attrs_at table m ≡ Some attrs → attrs_at table n ≡ Some attrs → m ≡ n

-- ---- steps

-- The table hands out these references: one use more for each, and what was in use stays.
pub record Hands (old new : Table) (ones : List Numbered) : Type 0 where
  pub each : AllByRecursion (IsOf new) ones
  pub uses : (number : ℕ) → uses_at new number ≡ uses_at old number + times number ones
  pub stays : (number : ℕ) (attrs : Attrs) → attrs_at old number ≡ Some attrs → attrs_at new number ≡ Some attrs

-- The table takes these references back: one use less for each, and what is still in use stays.
pub record TakesBack (old new : Table) (ones : List Numbered) : Type 0 where
  pub uses : (number : ℕ) → uses_at old number ≡ uses_at new number + times number ones
  pub stays : (number : ℕ) → 0 < uses_at new number → attrs_at new number ≡ attrs_at old number
  pub free : (number : ℕ) → uses_at new number ≡ 0 → attrs_at new number ≡ None
