-- What a table keeps: its slots, and the number of each value by its content.
use Rattle.std.specs.Prelude.{◌≡◌, ◌≢◌, ℕ, ◌+◌, ◌-◌, ◌<◌, List, Option, Some}
use Rattle.std.specs.Map.{lookup}
use Rattle.attr_model.specs.declared.attrs.Attrs.{Attrs}
use Rattle.attr_model.specs.contracts.attrs.AttrsPartialEq.TheImpl.{eq-value as attrs_eq}
use Rattle.attr_intern.specs.declared.table.Shared.{Shared}
use Rattle.attr_intern.specs.Table.{Table, shared_at, attrs_at}

-- the number of attributes, among the entries of the numbers by content
abbrev pub number_of : List (Attrs × ℕ) → Attrs → Option ℕ
number_of entries attrs = lookup (attrs_eq.it attrs) entries

-- The numbers by content say what the slots say, and what stands in a slot is in use.
pub record IsKept (table : Table) (entries : List (Attrs × ℕ)) : Type 0 where
  pub found : (attrs : Attrs) (number : ℕ) → number_of entries attrs ≡ Some number → attrs_at table number ≡ Some attrs
  pub known : (attrs : Attrs) (number : ℕ) → attrs_at table number ≡ Some attrs → number_of entries attrs ≡ Some number
  pub used : (number : ℕ) (shared : Shared) → shared_at table number ≡ Some shared → 0 < shared.uses

-- ---- steps on one number

-- the attributes at their first use
abbrev pub first_of : Attrs → Shared
first_of attrs = record { attrs = attrs; uses = 1 }

abbrev pub one_more : Shared → Shared
one_more shared = record shared { uses = shared.uses + 1 }

abbrev pub one_less : Shared → Shared
one_less shared = record shared { uses = shared.uses - 1 }

-- This stands under the number now, and under each other number what stood there.
pub record Sets (old new : Table) (number : ℕ) (shared : Option Shared) : Type 0 where
  pub changed : shared_at new number ≡ shared
  pub others : (other : ℕ) → other ≢ number → shared_at new other ≡ shared_at old other
