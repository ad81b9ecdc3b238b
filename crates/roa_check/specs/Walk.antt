-- A walk up the entries of an index from the last that covers to the first.
use Rattle.std.specs.Prelude.{◌≡◌, ℕ, ◌+◌, ◌<◌, Bool, false, true, List, Option, Some, None, map, length, slice_get}
use Rattle.std.specs.List.{list_any}
use Rattle.lane_scan.specs.declared.columns.Slot.{Slot}
use Rattle.lane_scan.specs.Covering.{covers_at}

-- the entry at a place covers, and none behind it passes the test
pub record StandsAt {X : Type 0} (slot_of : X → Slot) (test : X → Bool) (entries : List X) (slot : Slot) (at : ℕ) : Type 0 where
  pub within : at < length entries
  pub covering : covers_at (map slot_of entries) slot at ≡ true
  pub none_behind : (k : ℕ) (x : X) → at < k → slice_get entries k ≡ Some x → test x ≡ false

-- at the end of the walk no entry passes the test
abbrev pub Walked : {X : Type 0} → (X → Slot) → (X → Bool) → List X → Slot → Option ℕ → Type 0
Walked slot_of test entries slot None = list_any test entries ≡ false
Walked slot_of test entries slot (Some at) = StandsAt slot_of test entries slot at

-- how many entries are left to walk
abbrev pub left_to_walk : Option ℕ → ℕ
left_to_walk None = 0
left_to_walk (Some at) = at + 1
