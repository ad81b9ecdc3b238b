-- What the attributes of a field say, each by itself (RFC 4271 sections 4.3 and 6.3, RFC 6793, RFC 7606 section 7,
-- RFC 1997, RFC 8092).
use Rattle.std.specs.Prelude.{ℕ, ◌-◌, ◌++◌, Bool, true, false, ◌==◌, ◌&&◌, not, nat_le, nat_lt, if◌then◌else◌, List, [], ◌∷◌, length, slice_index, Option, Some, None, take, drop}
use Rattle.byteorder.specs.Endian.{big_number}
use Rattle.attr_model.specs.declared.path.Segment.{Segment}
use Rattle.attr_model.specs.declared.path.Segment.TheVariants.{Set, Sequence}
use Rattle.attr_model.specs.Path.{count_of, path_length}
use Rattle.attr_codec.specs.declared.said.Said.{Said}
use Rattle.attr_codec.specs.declared.said.Said.TheVariants.{Nothing, Value}
use Rattle.attr_codec.specs.declared.said.Flags.{Flags}
use Rattle.attr_codec.specs.declared.said.Flags.TheVariants.{WellKnown, Optional, OptionalTransitive}
use Rattle.attr_codec.specs.Field.{Attribute}
use Rattle.attr_codec.specs.Flags.{fits}
use Rattle.attr_codec.specs.Said.{◌>>=◌, or_malformed, or_dropped, bytes_said}
use Rattle.attr_codec.specs.Path.{path_of}

-- ORIGIN is one byte, 0 to 2.
abbrev pub origin_of : List ℕ → Option ℕ
origin_of value = if (length value == 1) && nat_le (slice_index value 0) 2 then Some (slice_index value 0) else None

unfoldable pub origin_said : List Attribute → Said ℕ
origin_said attributes = do
  value ← bytes_said (fits WellKnown) 1 attributes
  or_malformed (origin_of value)

unfoldable pub path_said : Bool → List Attribute → Said (List Segment)
path_said as4 attributes = do
  value ← bytes_said (fits WellKnown) 2 attributes
  or_malformed (path_of as4 value)

-- A number of four bytes.
abbrev pub number_of : List ℕ → Option ℕ
number_of value = if length value == 4 then Some (big_number 4 value) else None

-- NEXT_HOP, as the number of an IPv4 address, and MULTI_EXIT_DISC
unfoldable pub number_said : Flags → ℕ → List Attribute → Said ℕ
number_said flags kind attributes = do
  value ← bytes_said (fits flags) kind attributes
  or_malformed (number_of value)

abbrev pub next_hop_said : List Attribute → Said ℕ
next_hop_said attributes = number_said WellKnown 3 attributes

abbrev pub med_said : List Attribute → Said ℕ
med_said attributes = number_said Optional 4 attributes

-- LOCAL_PREF is dropped from an external peer, whatever its flags and value.
abbrev pub local_pref_said : Bool → List Attribute → Said ℕ
local_pref_said external attributes = if external then Nothing else number_said WellKnown 5 attributes

-- ATOMIC_AGGREGATE is empty.
unfoldable pub atomic_said : List Attribute → Said Bool
atomic_said attributes = do
  value ← bytes_said (fits WellKnown) 6 attributes
  if length value == 0 then Value true else Nothing

-- AGGREGATOR and AS4_AGGREGATOR: an AS number of two bytes or four, and an address of four.
abbrev pub aggregator_of : Bool → List ℕ → Option (ℕ × ℕ)
aggregator_of as4 value =
    if as4 then (if length value == 8 then Some (big_number 4 value, big_number 4 (drop 4 value)) else None)
    else (if length value == 6 then Some (big_number 2 value, big_number 4 (drop 2 value)) else None)

unfoldable pub aggregator_said : Bool → List Attribute → Said (ℕ × ℕ)
aggregator_said as4 attributes = do
  value ← bytes_said (fits OptionalTransitive) 7 attributes
  or_dropped (aggregator_of as4 value)

-- AS4_AGGREGATOR and AS4_PATH are dropped from a peer of four-octet numbers, whatever their flags and value.
unfoldable pub as4_aggregator_said : Bool → List Attribute → Said (ℕ × ℕ)
as4_aggregator_said as4 attributes = if as4 then Nothing else (do
  value ← bytes_said (fits OptionalTransitive) 18 attributes
  or_dropped (aggregator_of true value))

unfoldable pub as4_path_said : Bool → List Attribute → Said (List Segment)
as4_path_said as4 attributes = if as4 then Nothing else (do
  value ← bytes_said (fits OptionalTransitive) 17 attributes
  or_dropped (path_of true value))

-- How AS_PATH and AS4_PATH are joined (RFC 6793 section 4.2.3): the surplus leading part of AS_PATH, then AS4_PATH. A
-- sequence is cut where needed and a set, which counts one, is taken whole.
abbrev pub leading_part : ℕ → Segment → Segment
leading_part surplus (Set numbers) = Set numbers
leading_part surplus (Sequence numbers) = Sequence (take surplus numbers)

abbrev pub leading : ℕ → List Segment → List Segment
leading surplus [] = []
leading surplus (segment ∷ rest) =
    if surplus == 0 then [] else leading_part surplus segment ∷ leading (surplus - count_of segment) rest

-- AS4_PATH counts where AS_PATH has at least as many numbers.
abbrev pub joined_paths : List Segment → List Segment → List Segment
joined_paths path as4_path =
    if nat_lt (path_length path) (path_length as4_path) then path
    else leading (path_length path - path_length as4_path) path ++ as4_path

-- Where AGGREGATOR and AS4_AGGREGATOR came and the AS of AGGREGATOR isn't AS_TRANS, 23456, both AS4 attributes
-- are ignored.
abbrev pub ignores_as4 : Option (ℕ × ℕ) → Option (ℕ × ℕ) → Bool
ignores_as4 None as4_aggregator = false
ignores_as4 (Some aggregator) None = false
ignores_as4 (Some aggregator) (Some as4_aggregator) = not (aggregator.0 == 23456)

-- AS4_AGGREGATOR takes the place of AGGREGATOR, where that came.
abbrev pub joined_aggregators : Option (ℕ × ℕ) → Option (ℕ × ℕ) → Option (ℕ × ℕ)
joined_aggregators None as4_aggregator = None
joined_aggregators (Some aggregator) None = Some aggregator
joined_aggregators (Some aggregator) (Some as4_aggregator) = if aggregator.0 == 23456 then Some as4_aggregator else Some aggregator
