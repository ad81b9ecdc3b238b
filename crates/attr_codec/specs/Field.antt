-- The attribute field of an UPDATE (RFC 4271 section 4.3).
use Rattle.std.specs.Prelude.{◌≡◌, ℕ, ◌<◌, ◌^◌, ◌==◌, if◌then◌else◌, bit_and, Bool, List, [], ◌∷◌, ◌++◌, length, flat_map, Option, Some, None, find}
use Rattle.std.specs.List.{AllByRecursion}
use Rattle.byteorder.specs.Endian.{big_bytes}
use Rattle.wire_buf.specs.Field.{◌>>=◌, number_at, bytes_at}
use Rattle.attr_codec.specs.Cut.{Cut, cut}

-- One attribute as it stands in the field.
pub record Attribute : Type 0 where
  pub flags : ℕ
  pub kind : ℕ
  pub value : List ℕ

abbrev pub Attributes : Type 0
Attributes = List Attribute

-- How many bytes the length has: two where the flag bit of the extended length is set.
abbrev pub length_size : ℕ → ℕ
length_size flags = if bit_and flags 16 == 0 then 1 else 2

-- The attribute in front and the bytes behind it; None where its header or its value passes the end.
unfoldable pub attribute_at : List ℕ → Option (Attribute × List ℕ)
attribute_at bytes = do
  flags ← number_at 1 bytes
  kind ← number_at 1 flags.1
  size ← number_at (length_size flags.0) kind.1
  value ← bytes_at size.0 size.1
  Some (record { flags = flags.0; kind = kind.0; value = value.0 }, value.1)

-- The attributes that stand whole in the field.
abbrev pub attributes_of : List ℕ → List Attribute
attributes_of field = (cut attribute_at field).items

-- The first attribute of a type. Those behind it are copies.
abbrev pub is_of : ℕ → Attribute → Bool
is_of kind attribute = attribute.kind == kind

abbrev pub first_of : ℕ → List Attribute → Option Attribute
first_of kind attributes = find (is_of kind) attributes

-- An attribute as bytes: its flags, its type, the length of its value and the value.
abbrev pub attribute_bytes : Attribute → List ℕ
attribute_bytes attribute =
    ((attribute.flags ∷ attribute.kind ∷ []) ++ big_bytes (length_size attribute.flags) (length attribute.value)) ++ attribute.value

-- The length of the value has room in its bytes.
abbrev pub HasItsLength : Attribute → Type 0
HasItsLength attribute = length attribute.value < 256 ^ length_size attribute.flags

-- The field is these attributes and a rest in front of which none stands, and which is empty where they are the whole field.
pub record Spells (field : List ℕ) (c : Cut Attribute) : Type 0 where
  pub rest : List ℕ
  pub all : field ≡ flat_map attribute_bytes c.items ++ rest
  pub each : AllByRecursion HasItsLength c.items
  pub ends : attribute_at rest ≡ None
  pub whole : c.whole ≡ (length rest == 0)
