-- Which slots of a list cover a prefix.
use Rattle.std.specs.Prelude.{◌≡◌, ℕ, ◌<◌, ◌≤◌, Bool, true, false, List, length, Option, None, Some, slice_get}
use Rattle.std.specs.Option.{option_map_or}
use Rattle.lane_scan.specs.declared.columns.Slot.{Slot}
use Rattle.lane_scan.specs.Slots.{covers_slot}

-- the slot at this index covers the prefix
abbrev pub covers_at : List Slot → Slot → ℕ → Bool
covers_at slots slot at = option_map_or (λ outer. covers_slot outer slot) (slice_get slots at) false

-- the first of a range that covers
pub record IsFirst (slots : List Slot) (slot : Slot) (from to at : ℕ) : Type 0 where
  pub behind : from ≤ at
  pub inside : at < to
  pub covering : covers_at slots slot at ≡ true
  pub none_before : (k : ℕ) → from ≤ k → k < at → covers_at slots slot k ≡ false

-- the first slot of a range that covers, or none where there is none
abbrev pub IsFirstCovering : List Slot → Slot → ℕ → ℕ → Option ℕ → Type 0
IsFirstCovering slots slot from to None = (k : ℕ) → from ≤ k → k < to → covers_at slots slot k ≡ false
IsFirstCovering slots slot from to (Some at) = IsFirst slots slot from to at

-- the least index not below `from` whose slot covers
abbrev pub IsNextCovering : List Slot → Slot → ℕ → Option ℕ → Type 0
IsNextCovering slots slot from found = IsFirstCovering slots slot from (length slots) found
