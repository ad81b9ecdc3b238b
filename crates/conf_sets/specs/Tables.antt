-- The entries of a prefix-set as slots of an index, those of one family, and the tables of the sets of a configuration.
use Rattle.std.specs.Prelude.{◌≡◌, ℕ, ◌<◌, ◌≤◌, ◌==◌, Bool, true, List, length, slice_index_or}
use Rattle.std.specs.List.{list_any}
use Rattle.net_base.specs.declared.addr.Family.{Family}
use Rattle.net_base.specs.Order.{same_family}
use Rattle.conf_tree.specs.declared.sets.PrefixRange.{PrefixRange}
use Rattle.lane_scan.specs.declared.columns.Slot.{Slot}
use Rattle.roa_check.specs.Table.{slot_of}

abbrev pub range_slot : PrefixRange → Slot
range_slot range = slot_of range.prefix

abbrev pub is_of_family : Family → PrefixRange → Bool
is_of_family family range = same_family range.prefix.family family

-- a test that only entries of a family pass finds the same in these as in the whole list
abbrev pub AreAllOf : Family → List PrefixRange → List PrefixRange → Type 0
AreAllOf family list ranges = (test : PrefixRange → Bool) → ((range : PrefixRange) → test range ≡ true → is_of_family family range ≡ true) → list_any test ranges ≡ list_any test list

-- a number stands in one list exactly where it stands in the other
abbrev pub HaveSameNumbers : List ℕ → List ℕ → Type 0
HaveSameNumbers ones others = (asn : ℕ) → list_any (λ number. number == asn) ones ≡ list_any (λ number. number == asn) others

-- no number is below one in front of it
abbrev pub Rises : List ℕ → Type 0
Rises numbers = (i j : ℕ) → i ≤ j → j < length numbers → slice_index_or numbers i 0 ≤ slice_index_or numbers j 0
