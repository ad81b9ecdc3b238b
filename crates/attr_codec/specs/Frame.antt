-- The attributes of a route as a frame between the parts of the speaker carries them: as an internal peer of four-octet AS
-- numbers gets them, and without NEXT_HOP. The hop and the weight stand beside them in the frame.
use Rattle.std.specs.Prelude.{◌≡◌, ℕ, ◌≤◌, true, false, nat_lt, nat_eq, if◌then◌else◌, List, length, Option, Some, None, Result, Ok, Err, option_map, option_and_then}
use Rattle.std.specs.Cmp.Lexicographic.{pointwise}
use Rattle.net_base.specs.declared.addr.Family.TheVariants.{V6}
use Rattle.net_base.specs.declared.addr.Addr.{Addr}
use Rattle.net_base.specs.Bits.{addr_of}
use Rattle.bgp_wire.specs.declared.open.Encoding.{Encoding}
use Rattle.attr_model.specs.declared.attrs.Attrs.{Attrs}
use Rattle.attr_model.specs.Valid.{IsValid}
use Rattle.attr_codec.specs.declared.outcome.ReadAttrs.{ReadAttrs}
use Rattle.attr_codec.specs.Written.{attrs_bytes}
use Rattle.attr_codec.specs.Width.{HaveWidth}
use Rattle.attr_codec.specs.Read.{field_says}

abbrev pub inner : Encoding
inner = record { v4 = false; v6 = false; as4 = true; refresh = false; external = false }

-- A route of IPv6 has no NEXT_HOP.
abbrev pub without_hop : Attrs → Attrs
without_hop attrs = record attrs { hop = addr_of V6 0 }

abbrev pub frame_attrs_bytes : Attrs → List ℕ
frame_attrs_bytes attrs = attrs_bytes inner (without_hop attrs)

-- Attributes that a frame can carry.
pub record IsFramed (attrs : Attrs) : Type 0 where
  pub valid : IsValid attrs
  pub width : HaveWidth attrs
  pub short : length (frame_attrs_bytes attrs) ≤ 65535

-- attributes with this hop and this weight
abbrev pub placed : Addr → ℕ → Attrs → Attrs
placed hop weight attrs = record attrs { hop = hop; weight = weight }

-- what a field says, with the hop and the weight that stand beside it
abbrev pub attrs_beside : Addr → ℕ → Result ReadAttrs ℕ → Option Attrs
attrs_beside hop weight (Err sub) = None
attrs_beside hop weight (Ok said) = option_map (placed hop weight) said.attrs

-- the attributes, where this is how they are written
abbrev pub if_written : List ℕ → Attrs → Option Attrs
if_written bytes attrs = if pointwise nat_eq bytes (frame_attrs_bytes attrs) then Some attrs else None

-- The attributes that a field is, or None where it is those of no route.
unfoldable pub frame_attrs_of : Addr → ℕ → List ℕ → Option Attrs
frame_attrs_of hop weight bytes =
    if nat_lt 65535 (length bytes) then None else option_and_then (if_written bytes) (attrs_beside hop weight (field_says inner bytes))

-- A field is that of valid attributes with this hop and this weight.
pub record IsFrameOf (given : Addr) (own : ℕ) (bytes : List ℕ) (attrs : Attrs) : Type 0 where
  pub valid : IsValid attrs
  pub hop : attrs.hop ≡ given
  pub weight : attrs.weight ≡ own
  pub written : bytes ≡ frame_attrs_bytes attrs
  pub short : length bytes ≤ 65535
