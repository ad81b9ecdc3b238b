-- The attributes that are sent with a route (RFC 4271 sections 4.3 and 5, RFC 4760, RFC 6793, RFC 1997, RFC 8092), as a table
-- of flags, types and values.
use Rattle.std.specs.Prelude.{ℕ, ◌+◌, ◌≤◌, ◌<◌, Bool, true, not, ◌==◌, ◌&&◌, nat_lt, nat_le, bit_and, if◌then◌else◌, List, [], ◌∷◌, ◌++◌, length, map, filter, flat_map, Option, Some, None, option_map, IfSome}
use Rattle.std.specs.Option.{option_map_or}
use Rattle.std.specs.List.{AllByRecursion}
use Rattle.byteorder.specs.Endian.{big_bytes}
use Rattle.net_base.specs.declared.addr.Family.{Family}
use Rattle.net_base.specs.declared.addr.Family.TheVariants.{V4, V6}
use Rattle.net_base.specs.declared.prefix.Prefix.{Prefix}
use Rattle.bgp_wire.specs.declared.open.Encoding.{Encoding}
use Rattle.attr_model.specs.declared.attrs.Attrs.{Attrs}
use Rattle.attr_model.specs.declared.path.Segment.{Segment}
use Rattle.attr_codec.specs.Path.{exceeds, as_bytes, path_bytes, path_exceeds}
use Rattle.attr_codec.specs.Prefixes.{prefixes_bytes}

-- A row of the table: an attribute, where it has a value.
pub record Row : Type 0 where
  pub flags : ℕ
  pub kind : ℕ
  pub value : Option (List ℕ)

abbrev pub row : ℕ → ℕ → Option (List ℕ) → Row
row flags kind value = record { flags = flags; kind = kind; value = value }

-- The flags, the type and the length of a value. Past 255 the length has two bytes, and the bit for that (16) is set.
abbrev pub header_bytes : ℕ → ℕ → ℕ → List ℕ
header_bytes flags kind size =
    if nat_lt 255 size then (((flags + 16) ∷ kind ∷ []) ++ big_bytes 2 size) else flags ∷ kind ∷ size ∷ []

abbrev pub row_bytes : Row → List ℕ
row_bytes r = option_map_or (λ value. header_bytes r.flags r.kind (length value) ++ value) r.value []

abbrev pub rows_bytes : List Row → List ℕ
rows_bytes rows = flat_map row_bytes rows

-- NEXT_HOP is that of IPv4 routes. Those of IPv6 have their hop in MP_REACH_NLRI.
abbrev pub next_hop_value : Family → ℕ → Option (List ℕ)
next_hop_value V4 bits = Some (big_bytes 4 bits)
next_hop_value V6 bits = None

-- ATOMIC_AGGREGATE is empty.
abbrev pub atomic_value : Bool → Option (List ℕ)
atomic_value is_there = if is_there then Some [] else None

abbrev pub aggregator_bytes : Bool → ℕ × ℕ → List ℕ
aggregator_bytes as4 aggregator = as_bytes as4 aggregator.0 ++ big_bytes 4 aggregator.1

unfoldable pub large_bytes : ℕ × ℕ × ℕ → List ℕ
large_bytes large = (big_bytes 4 large.0 ++ big_bytes 4 large.1) ++ big_bytes 4 large.2

-- A list of communities, where it isn't empty.
abbrev pub list_value : {X : Type 0} → (X → List ℕ) → List X → Option (List ℕ)
list_value bytes [] = None
list_value bytes (first ∷ others) = Some (flat_map bytes (first ∷ others))

-- AS4_PATH has the whole path, and AS4_AGGREGATOR the aggregator. Each is sent to a peer of two-octet numbers where one of its
-- numbers has no room in two bytes.
abbrev pub as4_path_value : Bool → List Segment → Option (List ℕ)
as4_path_value as4 path = if not as4 && path_exceeds path then Some (path_bytes true path) else None

abbrev pub as4_aggregator_value : Bool → Option (ℕ × ℕ) → Option (List ℕ)
as4_aggregator_value as4 None = None
as4_aggregator_value as4 (Some aggregator) =
    if not as4 && exceeds aggregator.0 then Some (aggregator_bytes true aggregator) else None

-- The flags of an optional transitive attribute, with the partial bit (32) as it was kept.
abbrev pub kept_flags : ℕ → ℕ → ℕ
kept_flags bits bit = if bit_and bits bit == 0 then 192 else 224

abbrev pub route_rows : Encoding → Attrs → List Row
route_rows enc attrs =
    row 64 1 (Some (attrs.origin ∷ []))
    ∷ row 64 2 (Some (path_bytes enc.as4 attrs.path))
    ∷ row 64 3 (next_hop_value attrs.hop.family attrs.hop.bits)
    ∷ []

abbrev pub number_rows : Attrs → List Row
number_rows attrs =
    row 128 4 (option_map (big_bytes 4) attrs.med)
    ∷ row 64 5 (option_map (big_bytes 4) attrs.local_pref)
    ∷ row 64 6 (atomic_value attrs.atomic)
    ∷ []

abbrev pub list_rows : Encoding → Attrs → List Row
list_rows enc attrs =
    row (kept_flags attrs.«partial» 1) 7 (option_map (aggregator_bytes enc.as4) attrs.aggregator)
    ∷ row (kept_flags attrs.«partial» 2) 8 (list_value (big_bytes 4) attrs.communities)
    ∷ []

abbrev pub as4_rows : Encoding → Attrs → List Row
as4_rows enc attrs =
    row 192 17 (as4_path_value enc.as4 attrs.path)
    ∷ row 192 18 (as4_aggregator_value enc.as4 attrs.aggregator)
    ∷ []

abbrev pub large_rows : Attrs → List Row
large_rows attrs = row (kept_flags attrs.«partial» 4) 32 (list_value large_bytes attrs.large) ∷ []

-- Attributes of unknown types, from a type to another. They are sent on with the partial bit, since this speaker doesn't know them
-- either.
abbrev pub is_between : ℕ → ℕ → ℕ × List ℕ → Bool
is_between low high attribute = nat_le low attribute.0 && nat_le attribute.0 high

abbrev pub unknown_row : ℕ × List ℕ → Row
unknown_row attribute = row 224 attribute.0 (Some attribute.1)

abbrev pub unknown_rows : ℕ → ℕ → List (ℕ × List ℕ) → List Row
unknown_rows low high unknown = map unknown_row (filter (is_between low high) unknown)

-- All attributes with ascending types, where the unknown ones stand between the known ones. LOCAL_PREF and MULTI_EXIT_DISC are
-- sent where they are there, and the weight never is.
abbrev pub low_rows : Encoding → Attrs → List Row
low_rows enc attrs = ((unknown_rows 0 0 attrs.unknown ++ route_rows enc attrs) ++ number_rows attrs) ++ list_rows enc attrs

abbrev pub high_rows : Encoding → Attrs → List Row
high_rows enc attrs =
    (((unknown_rows 9 16 attrs.unknown ++ as4_rows enc attrs) ++ unknown_rows 19 31 attrs.unknown) ++ large_rows attrs) ++ unknown_rows 33 255 attrs.unknown

abbrev pub attrs_rows : Encoding → Attrs → List Row
attrs_rows enc attrs = low_rows enc attrs ++ high_rows enc attrs

-- The attributes as bytes, without those of RFC 4760.
unfoldable pub attrs_bytes : Encoding → Attrs → List ℕ
attrs_bytes enc attrs = rows_bytes (attrs_rows enc attrs)

-- MP_REACH_NLRI and MP_UNREACH_NLRI of IPv6 unicast prefixes: AFI 2, SAFI 1, a hop of 16 bytes, and a byte that is zero.
abbrev pub reach_row : ℕ → List Prefix → Row
reach_row hop prefixes =
    row 128 14 (Some (((0 ∷ 2 ∷ 1 ∷ 16 ∷ []) ++ big_bytes 16 hop) ++ ((0 ∷ []) ++ prefixes_bytes prefixes)))

abbrev pub unreach_row : List Prefix → Row
unreach_row prefixes = row 128 15 (Some ((0 ∷ 2 ∷ 1 ∷ []) ++ prefixes_bytes prefixes))

-- Each value has at most 65535 bytes, as many as its length can say. A type is a byte.
abbrev pub IsShort : List ℕ → Type 0
IsShort value = length value ≤ 65535

abbrev pub IsShortOne : ℕ × List ℕ → Type 0
IsShortOne attribute = attribute.0 < 256 → IsShort attribute.1

pub record HaveShortValues (enc : Encoding) (attrs : Attrs) : Type 0 where
  pub path : IsShort (path_bytes enc.as4 attrs.path)
  pub as4_path : IfSome (as4_path_value enc.as4 attrs.path) IsShort
  pub communities : IsShort (flat_map (big_bytes 4) attrs.communities)
  pub large : IsShort (flat_map large_bytes attrs.large)
  pub unknown : AllByRecursion IsShortOne attrs.unknown
