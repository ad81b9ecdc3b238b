-- Prefixes of one family as columns of halves of their bits and of their lengths, and what covers what.
use Rattle.std.specs.Prelude.{ℕ, ◌+◌, ◌-◌, ◌*◌, ◌/◌, ◌%◌, ◌^◌, Bool, ◌&&◌, ◌==◌, nat_le, List, [], ◌∷◌}
use Rattle.lane_scan.specs.declared.columns.Slot.{Slot}

-- the bits of two halves
abbrev pub whole_of : ℕ → ℕ → ℕ
whole_of high low = high * 18446744073709551616 + low % 18446744073709551616

-- the slots of three columns
abbrev pub slots_of : List ℕ → List ℕ → List ℕ → List Slot
slots_of [] lows lens = []
slots_of (high ∷ highs) [] lens = []
slots_of (high ∷ highs) (low ∷ lows) [] = []
slots_of (high ∷ highs) (low ∷ lows) (len ∷ lens) = record { bits = whole_of high low; len = len } ∷ slots_of highs lows lens

-- the first `len` of 128 bits, as a number
abbrev pub first_of : ℕ → ℕ → ℕ
first_of len bits = bits / 2 ^ (128 - len)

-- the first prefix is not longer than the second and has the same first bits
unfoldable pub covers_slot : Slot → Slot → Bool
covers_slot outer inner = nat_le outer.len inner.len && (first_of outer.len outer.bits == first_of outer.len inner.bits)
