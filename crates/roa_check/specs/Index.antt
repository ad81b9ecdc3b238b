-- Prefixes of one family in order, each with the nearest one that covers it.
use Rattle.std.specs.Prelude.{◌≡◌, ℕ, ◌-◌, ◌%◌, ◌^◌, ◌<◌, ◌≤◌, Bool, true, false, ◌&&◌, ◌||◌, ◌==◌, nat_lt, nat_le, List, length, Option, None, Some, slice_get}
use Rattle.lane_scan.specs.declared.columns.Slot.{Slot}
use Rattle.lane_scan.specs.Slots.{covers_slot}
use Rattle.lane_scan.specs.Covering.{covers_at}

-- by bits, then by length; a prefix comes before itself
abbrev pub comes_before : Slot → Slot → Bool
comes_before one other = nat_lt one.bits other.bits || ((one.bits == other.bits) && nat_le one.len other.len)

-- the bits behind the length are zero
pub record IsWhole (slot : Slot) : Type 0 where
  pub short : slot.len ≤ 128
  pub host_bits_zero : slot.bits % 2 ^ (128 - slot.len) ≡ 0

abbrev pub AreWhole : List Slot → Type 0
AreWhole slots = (i : ℕ) (one : Slot) → slice_get slots i ≡ Some one → IsWhole one

-- each prefix comes before those behind it
abbrev pub IsAscending : List Slot → Type 0
IsAscending slots = (i j : ℕ) (one other : Slot) → i ≤ j → slice_get slots i ≡ Some one → slice_get slots j ≡ Some other → comes_before one other ≡ true

-- the first so many prefixes come before this one
abbrev pub AreBefore : List Slot → Slot → ℕ → Type 0
AreBefore slots slot count = (k : ℕ) (one : Slot) → k < count → slice_get slots k ≡ Some one → comes_before one slot ≡ true

abbrev pub AllBefore : List Slot → Slot → Type 0
AllBefore slots slot = AreBefore slots slot (length slots)

-- those past the first so many don't
abbrev pub NoneBefore : List Slot → Slot → ℕ → Type 0
NoneBefore slots slot count = (k : ℕ) (one : Slot) → count ≤ k → slice_get slots k ≡ Some one → comes_before one slot ≡ false

abbrev pub NoneCover : List Slot → Slot → ℕ → Type 0
NoneCover slots slot count = (k : ℕ) → count ≤ k → covers_at slots slot k ≡ false

-- between the parent and the place no other prefix covers
pub record IsParent (slots : List Slot) (slot : Slot) (place parent : ℕ) : Type 0 where
  pub before : parent ≤ place
  pub nearest : (k : ℕ) (one : Slot) → parent ≤ k → k < place → slice_get slots k ≡ Some one → covers_slot one slot ≡ true → one ≡ slot

abbrev pub AreParents : List Slot → List ℕ → Type 0
AreParents slots parents = (i parent : ℕ) (one : Slot) → slice_get slots i ≡ Some one → slice_get parents i ≡ Some parent → IsParent slots one i parent

-- the prefix in front is the same
abbrev pub IsRepeat : List Slot → ℕ → Type 0
IsRepeat slots at = (0 < at) × (slice_get slots (at - 1) ≡ slice_get slots at)

-- all that an index keeps
pub record IsIndex (slots : List Slot) (parents : List ℕ) : Type 0 where
  pub as_many : length parents ≡ length slots
  pub in_order : IsAscending slots
  pub whole : AreWhole slots
  pub nearest : AreParents slots parents

-- the last of so many prefixes that covers
pub record IsLast (slots : List Slot) (slot : Slot) (count at : ℕ) : Type 0 where
  pub within : at < count
  pub covering : covers_at slots slot at ≡ true
  pub none_behind : (k : ℕ) → at < k → k < count → covers_at slots slot k ≡ false

abbrev pub IsLastCovering : List Slot → Slot → ℕ → Option ℕ → Type 0
IsLastCovering slots slot count None = (k : ℕ) → k < count → covers_at slots slot k ≡ false
IsLastCovering slots slot count (Some at) = IsLast slots slot count at
