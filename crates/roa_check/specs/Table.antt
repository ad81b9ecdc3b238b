-- Prefixes of either family as slots of an index, and the entries of one family.
use Rattle.std.specs.Prelude.{◌≡◌, ℕ, ◌-◌, ◌*◌, ◌^◌, Bool, true, List}
use Rattle.std.specs.List.{list_any}
use Rattle.net_base.specs.declared.addr.Family.{Family}
use Rattle.net_base.specs.declared.prefix.Prefix.{Prefix}
use Rattle.net_base.specs.declared.roa.Roa.{Roa}
use Rattle.net_base.specs.Order.{same_family}
use Rattle.net_base.specs.Width.{width_of}
use Rattle.lane_scan.specs.declared.columns.Slot.{Slot}

-- the bits of a prefix, moved up so that its first bit is the first of 128
abbrev pub slot_of : Prefix → Slot
slot_of prefix = record { bits = prefix.bits * 2 ^ (128 - width_of prefix.family); len = prefix.len }

abbrev pub roa_slot : Roa → Slot
roa_slot roa = slot_of roa.prefix

abbrev pub is_of_family : Family → Roa → Bool
is_of_family family roa = same_family roa.prefix.family family

-- a test that only entries of a family pass finds the same in these as in the whole list
abbrev pub AreAllOf : Family → List Roa → List Roa → Type 0
AreAllOf family list roas = (test : Roa → Bool) → ((roa : Roa) → test roa ≡ true → is_of_family family roa ≡ true) → list_any test roas ≡ list_any test list
