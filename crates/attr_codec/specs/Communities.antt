-- COMMUNITIES (RFC 1997) and LARGE_COMMUNITY (RFC 8092) as bytes. A list that is empty or isn't made of whole ones is
-- malformed (RFC 7606 section 7.8, RFC 8092 section 6).
use Rattle.std.specs.Prelude.{ℕ, ◌%◌, Bool, not, ◌==◌, ◌||◌, if◌then◌else◌, List, length, Option, Some, None}
use Rattle.std.specs.Ordering.{nat_cmp}
use Rattle.attr_model.specs.Valid.{large_cmp}
use Rattle.attr_codec.specs.declared.said.Said.{Said}
use Rattle.attr_codec.specs.declared.said.Flags.TheVariants.{OptionalTransitive}
use Rattle.attr_codec.specs.Ascending.{ascending}
use Rattle.attr_codec.specs.Large.{larges_of}
use Rattle.attr_codec.specs.Field.{Attribute}
use Rattle.attr_codec.specs.Flags.{fits}
use Rattle.attr_codec.specs.Path.{numbers_in}
use Rattle.attr_codec.specs.Said.{◌>>=◌, or_malformed, bytes_said}

-- whether a value is made of some whole items of this size
abbrev pub is_ragged : ℕ → List ℕ → Bool
is_ragged size value = (length value == 0) || not (length value % size == 0)

abbrev pub communities_of : List ℕ → Option (List ℕ)
communities_of value = if is_ragged 4 value then None else Some (ascending nat_cmp (numbers_in 4 value))

unfoldable pub communities_said : List Attribute → Said (List ℕ)
communities_said attributes = do
  value ← bytes_said (fits OptionalTransitive) 8 attributes
  or_malformed (communities_of value)

abbrev pub larges_said_of : List ℕ → Option (List (ℕ × ℕ × ℕ))
larges_said_of value = if is_ragged 12 value then None else Some (ascending large_cmp (larges_of value))

unfoldable pub large_said : List Attribute → Said (List (ℕ × ℕ × ℕ))
large_said attributes = do
  value ← bytes_said (fits OptionalTransitive) 32 attributes
  or_malformed (larges_said_of value)
