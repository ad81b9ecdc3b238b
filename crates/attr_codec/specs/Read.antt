-- What an attribute field says (RFC 4271 sections 4.3, 5 and 6.3, RFC 4760, RFC 6793, RFC 7606).
use Rattle.std.specs.Prelude.{ℕ, Bool, false, not, ◌||◌, ◌&&◌, List, Option, Some, None, Result, Ok, Err, option_map, is_some}
use Rattle.std.specs.Option.{option_map_or}
use Rattle.net_base.specs.declared.addr.Family.{Family}
use Rattle.net_base.specs.declared.addr.Family.TheVariants.{V4}
use Rattle.net_base.specs.declared.addr.Addr.{Addr}
use Rattle.net_base.specs.declared.prefix.Prefix.{Prefix}
use Rattle.net_base.specs.Bits.{addr_of}
use Rattle.bgp_wire.specs.declared.open.Encoding.{Encoding}
use Rattle.attr_model.specs.declared.attrs.Attrs.{Attrs}
use Rattle.attr_model.specs.declared.path.Segment.{Segment}
use Rattle.attr_codec.specs.declared.said.Flags.TheVariants.{Optional}
use Rattle.attr_codec.specs.declared.parts.Numbers.{Numbers}
use Rattle.attr_codec.specs.declared.parts.Paths.{Paths}
use Rattle.attr_codec.specs.declared.parts.Lists.{Lists}
use Rattle.attr_codec.specs.declared.outcome.ReadAttrs.{ReadAttrs}
use Rattle.attr_codec.specs.Cut.{cut}
use Rattle.attr_codec.specs.Field.{Attribute, attribute_at, first_of}
use Rattle.attr_codec.specs.Flags.{fits}
use Rattle.attr_codec.specs.Said.{value_of, is_malformed}
use Rattle.attr_codec.specs.Values.{origin_said, next_hop_said}
use Rattle.attr_codec.specs.Reach.{reach_parts, unreach_parts, reached, unreached}
use Rattle.attr_codec.specs.Parts.{numbers_said, paths_said, lists_said, partial_bits}
use Rattle.attr_codec.specs.Fault.{field_fault}

-- What the first MP_REACH_NLRI announces and the first MP_UNREACH_NLRI withdraws.
abbrev pub reach_said : Encoding → List Attribute → Option (Family × Addr × List Prefix)
reach_said enc attributes = option_map_or (λ attribute. reached (reach_parts enc attribute.value)) (first_of 14 attributes) None

abbrev pub unreach_said : Encoding → List Attribute → Option (Family × List Prefix)
unreach_said enc attributes = option_map_or (λ attribute. unreached (unreach_parts enc attribute.value)) (first_of 15 attributes) None

-- Bad flags of an MP attribute count where its family is agreed.
abbrev pub is_reach_malformed : Encoding → List Attribute → Bool
is_reach_malformed enc attributes =
    option_map_or (λ attribute. is_some (reached (reach_parts enc attribute.value)) && not (fits Optional attribute.flags)) (first_of 14 attributes) false

abbrev pub is_unreach_malformed : Encoding → List Attribute → Bool
is_unreach_malformed enc attributes =
    option_map_or (λ attribute. is_some (unreached (unreach_parts enc attribute.value)) && not (fits Optional attribute.flags)) (first_of 15 attributes) false

abbrev pub next_hop_of : List Attribute → Option Addr
next_hop_of attributes = option_map (λ bits. addr_of V4 bits) (value_of (next_hop_said attributes))

-- The hop is that of NEXT_HOP, otherwise that of MP_REACH_NLRI, otherwise 0.0.0.0.
abbrev pub hop_of : Option Addr → Option (Family × Addr × List Prefix) → Addr
hop_of (Some hop) reach = hop
hop_of None (Some reach) = reach.1
hop_of None None = addr_of V4 0

-- The attributes, where ORIGIN and AS_PATH are there and good.
abbrev pub attrs_with : Addr → Option ℕ → Option (List Segment) → Numbers → Paths → Lists → ℕ → Option Attrs
attrs_with hop None path numbers paths lists bits = None
attrs_with hop (Some origin) None numbers paths lists bits = None
attrs_with hop (Some origin) (Some path) numbers paths lists bits = Some (record {
  origin = origin;
  path = path;
  hop = hop;
  med = numbers.med;
  local_pref = numbers.local_pref;
  atomic = numbers.atomic;
  aggregator = paths.aggregator;
  communities = lists.communities;
  large = lists.large;
  unknown = lists.unknown;
  «partial» = bits;
  weight = 0;
})

abbrev pub attrs_said : Encoding → Addr → List Attribute → Option Attrs
attrs_said enc hop attributes =
    attrs_with hop (value_of (origin_said attributes)) (paths_said enc.as4 attributes).path (numbers_said enc.external attributes) (paths_said enc.as4 attributes) (lists_said attributes)
    (partial_bits (paths_said enc.as4 attributes) (lists_said attributes) attributes)

-- Some attribute is malformed, so the announced prefixes count as withdrawn.
abbrev pub is_route_malformed : Encoding → List Attribute → Bool
is_route_malformed enc attributes =
    ((is_malformed (origin_said attributes) || (numbers_said enc.external attributes).malformed) || (paths_said enc.as4 attributes).malformed) || (lists_said attributes).malformed

abbrev pub is_some_malformed : Encoding → List Attribute → Bool
is_some_malformed enc attributes =
    ((is_route_malformed enc attributes || is_malformed (next_hop_said attributes)) || is_reach_malformed enc attributes) || is_unreach_malformed enc attributes

unfoldable pub attributes_say : Encoding → List Attribute → ReadAttrs
attributes_say enc attributes = record {
  attrs = attrs_said enc (hop_of (next_hop_of attributes) (reach_said enc attributes)) attributes;
  withdraw = is_some_malformed enc attributes;
  next_hop = next_hop_of attributes;
  reach = reach_said enc attributes;
  unreach = unreach_said enc attributes;
}

-- The first NOTIFICATION in the order of the bytes, or what the attributes say.
abbrev pub said_unless : Option ℕ → ReadAttrs → Result ReadAttrs ℕ
said_unless (Some sub) said = Err sub
said_unless None said = Ok said

unfoldable pub field_says : Encoding → List ℕ → Result ReadAttrs ℕ
field_says enc field = said_unless (field_fault enc (cut attribute_at field)) (attributes_say enc (cut attribute_at field).items)
