-- Where the first attribute of each type stands in a field, as a table by type.
use Rattle.std.specs.Prelude.{◌≡◌, ℕ, ◌+◌, ◌-◌, ◌<◌, ◌≤◌, Bool, false, not, ◌==◌, ◌&&◌, min, max, if◌then◌else◌, List, length, drop, slice_index, slice_set, Option, option_map}
use Rattle.std.specs.List.{list_any}
use Rattle.attr_codec.specs.declared.kinds.Kinds.{Kinds}
use Rattle.attr_codec.specs.Field.{Attribute, attribute_at, attributes_of, first_of}
use Rattle.attr_codec.specs.Unknown.{is_kept}

-- the last n bytes
abbrev pub last_bytes : ℕ → List ℕ → List ℕ
last_bytes n bytes = drop (length bytes - n) bytes

-- The attribute from which on a field has so many bytes. There is none in the last 0.
abbrev pub attribute_in : List ℕ → ℕ → Option Attribute
attribute_in bytes place = option_map (λ found. found.0) (attribute_at (last_bytes place bytes))

-- a type has a place in the table
abbrev pub is_noted : List ℕ → ℕ → Bool
is_noted places kind = not (slice_index places kind == 0)

-- The first place of a type stays.
abbrev pub with_place : List ℕ → ℕ → ℕ → List ℕ
with_place places kind place = if is_noted places kind then places else slice_set places kind place

abbrev pub no_kinds : Kinds
no_kinds = record { from = 256; to = 0 }

-- with the type of one more attribute that is kept
abbrev pub kinds_with : Kinds → Attribute → Kinds
kinds_with kinds attribute =
    if is_kept attribute then record { from = min kinds.from attribute.kind; to = max kinds.to (attribute.kind + 1) } else kinds

abbrev pub is_kept_of : ℕ → Attribute → Bool
is_kept_of kind attribute = is_kept attribute && (attribute.kind == kind)

-- The table tells the first attribute of each type, as the list does; and among `kinds` is each type of which one is kept.
pub record AreNoted (bytes places : List ℕ) (kinds : Kinds) : Type 0 where
  pub each : (kind : ℕ) → attribute_in bytes (slice_index places kind) ≡ first_of kind (attributes_of bytes)
  pub types : length places ≡ 256
  pub within : (kind : ℕ) → slice_index places kind ≤ length bytes
  pub below : (kind : ℕ) → kind < kinds.from → list_any (is_kept_of kind) (attributes_of bytes) ≡ false
  pub above : (kind : ℕ) → kinds.to ≤ kind → list_any (is_kept_of kind) (attributes_of bytes) ≡ false
  pub low : kinds.from ≤ 256
  pub high : kinds.to ≤ 256
