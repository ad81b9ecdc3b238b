-- AS paths as bytes (RFC 4271 section 4.3, AS_PATH; RFC 6793 section 3): AS numbers have two bytes or four.
use Rattle.std.specs.Prelude.{ℕ, Bool, ◌*◌, ◌==◌, nat_lt, if◌then◌else◌, List, [], ◌∷◌, ◌++◌, length, flat_map, Option, Some, None}
use Rattle.std.specs.List.{list_any}
use Rattle.byteorder.specs.Endian.{big_bytes}
use Rattle.wire_buf.specs.Field.{◌>>=◌, number_at, bytes_at}
use Rattle.attr_model.specs.declared.path.Segment.{Segment}
use Rattle.attr_model.specs.declared.path.Segment.TheVariants.{Set, Sequence}
use Rattle.attr_model.specs.Valid.{numbers_of as listed}
use Rattle.attr_codec.specs.Cut.{cut, all_items}

-- how many bytes an AS number has
abbrev pub as_size : Bool → ℕ
as_size as4 = if as4 then 4 else 2

-- the numbers of so many bytes that stand whole in a field
abbrev pub numbers_in : ℕ → List ℕ → List ℕ
numbers_in size bytes = (cut (number_at size) bytes).items

-- A segment of type 1 is a set and one of type 2 a sequence. There is no other, and none without numbers.
abbrev pub segment_of : ℕ → List ℕ → Option Segment
segment_of kind [] = None
segment_of kind (first ∷ others) =
    if kind == 1 then Some (Set (first ∷ others)) else if kind == 2 then Some (Sequence (first ∷ others)) else None

-- The type of the segment in front and the bytes of its numbers, and the bytes behind it.
unfoldable pub segment_parts_at : Bool → List ℕ → Option ((ℕ × List ℕ) × List ℕ)
segment_parts_at as4 bytes = do
  kind ← number_at 1 bytes
  count ← number_at 1 kind.1
  numbers ← bytes_at (count.0 * as_size as4) count.1
  Some ((kind.0, numbers.0), numbers.1)

unfoldable pub segment_at : Bool → List ℕ → Option (Segment × List ℕ)
segment_at as4 bytes = do
  parts ← segment_parts_at as4 bytes
  segment ← segment_of parts.0.0 (numbers_in (as_size as4) parts.0.1)
  Some (segment, parts.1)

-- The path that a value is, or None where it is malformed.
abbrev pub path_of : Bool → List ℕ → Option (List Segment)
path_of as4 bytes = all_items (segment_at as4) bytes

-- An AS number that has no room in two bytes, where 23456 stands for it (RFC 6793 section 9, AS_TRANS).
abbrev pub exceeds : ℕ → Bool
exceeds asn = nat_lt 65535 asn

abbrev pub told_as : Bool → ℕ → ℕ
told_as as4 asn = if as4 then asn else if exceeds asn then 23456 else asn

abbrev pub as_bytes : Bool → ℕ → List ℕ
as_bytes as4 asn = if as4 then big_bytes 4 asn else big_bytes 2 (told_as as4 asn)

-- A segment as bytes: its type, how many numbers it lists, and these.
abbrev pub kind_of_segment : Segment → ℕ
kind_of_segment (Set numbers) = 1
kind_of_segment (Sequence numbers) = 2

abbrev pub segment_bytes : Bool → Segment → List ℕ
segment_bytes as4 segment = (kind_of_segment segment ∷ length (listed segment) ∷ []) ++ flat_map (as_bytes as4) (listed segment)

abbrev pub path_bytes : Bool → List Segment → List ℕ
path_bytes as4 path = flat_map (segment_bytes as4) path

-- some number of the path has no room in two bytes
abbrev pub segment_exceeds : Segment → Bool
segment_exceeds segment = list_any exceeds (listed segment)

abbrev pub path_exceeds : List Segment → Bool
path_exceeds path = list_any segment_exceeds path
