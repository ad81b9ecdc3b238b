-- The attributes that a field gives are valid.
use Rattle.std.proofs.Common.{◌≡◌, ℕ, ◌≤◌, List, Option, Some, None}
use Rattle.std.specs.Prelude.{IfSome, IfOk}
use Rattle.std.specs.List.Sorted.{IsStrictlySortedBy}
use Rattle.std.specs.Ordering.{nat_cmp}
use Rattle.std.proofs.lemmas.Option.{option_and_then_some}
use Rattle.wire_buf.specs.Field.{number_at, bytes_at}
use Rattle.net_base.specs.declared.addr.Addr.{Addr}
use Rattle.bgp_wire.specs.Message.{AreBytes}
use Rattle.bgp_wire.specs.declared.open.Encoding.{Encoding}
use Rattle.attr_model.specs.declared.path.Segment.{Segment}
use Rattle.attr_model.specs.Valid.{large_cmp, IsPath, IsValid}
use Rattle.attr_codec.specs.declared.parts.Numbers.{Numbers}
use Rattle.attr_codec.specs.declared.parts.Paths.{Paths}
use Rattle.attr_codec.specs.declared.parts.Lists.{Lists}
use Rattle.attr_codec.specs.declared.outcome.ReadAttrs.{ReadAttrs}
use Rattle.attr_codec.specs.Cut.{cut}
use Rattle.attr_codec.specs.Field.{Attribute, length_size, attribute_at}
use Rattle.attr_codec.specs.Fault.{field_fault}
use Rattle.attr_codec.specs.Said.{value_of}
use Rattle.attr_codec.specs.Values.{origin_said}
use Rattle.attr_codec.specs.Parts.{numbers_said, paths_said, lists_said, partial_bits}
use Rattle.attr_codec.specs.Read.{next_hop_of, reach_said, hop_of, attrs_with, attrs_said, attributes_say, said_unless, field_says}
use Rattle.attr_codec.proofs.Bytes.{number_rest, field_parts}
use Rattle.attr_codec.proofs.CutItems.{items_are}
use Rattle.attr_codec.proofs.ValuesRead.{HaveBytes, origin_read, paths_read, communities_read, larges_read}
use Rattle.attr_codec.proofs.UnknownRead.{AreBelow, unknown_read}
use Rattle.attr_codec.proofs.PartialRead.{Counts, partial_read}

-- each value of a field is made of bytes
attribute_bytes : (bytes : List ℕ) (x : Attribute × List ℕ) → AreBytes bytes → attribute_at bytes ≡ Some x → AreBytes x.0.value × AreBytes x.1
unfolding attribute_at
attribute_bytes bytes x are e =
    option_and_then_some _ (number_at 1 bytes) x e (λ flags hf h1.
    option_and_then_some _ (number_at 1 flags.1) x h1 (λ kind hk h2.
    option_and_then_some _ (number_at (length_size flags.0) kind.1) x h2 (λ size hs h3.
    option_and_then_some _ (bytes_at size.0 size.1) x h3 (λ value hv h4.
    let behind = number_rest (length_size flags.0) kind.1 size (number_rest 1 flags.1 kind (number_rest 1 bytes flags are hf) hk) hs in
    let parts = field_parts size.0 size.1 value behind hv in
    let same : (record { flags = flags.0; kind = kind.0; value = value.0 }, value.1) ≡ x = cc in
    rw (← same) parts))))

values_are : (field : List ℕ) → AreBytes field → HaveBytes (cut attribute_at field).items
values_are field are = items_are attribute_at (λ (attribute : Attribute). AreBytes attribute.value) AreBytes attribute_bytes field are

with_valid : (hop : Addr) (origin : Option ℕ) (path : Option (List Segment)) (numbers : Numbers) (paths : Paths) (lists : Lists) (n : ℕ)
    → IfSome origin (λ o. o ≤ 2) → IfSome path IsPath → IsStrictlySortedBy nat_cmp lists.communities → IsStrictlySortedBy large_cmp lists.large → AreBelow 256 lists.unknown → Counts paths lists n
    → IfSome (attrs_with hop origin path numbers paths lists n) IsValid
with_valid hop None path numbers paths lists n is_origin is_path communities large unknown counts = tt
with_valid hop (Some origin) None numbers paths lists n is_origin is_path communities large unknown counts = tt
with_valid hop (Some origin) (Some path) numbers paths lists n is_origin is_path communities large unknown counts = record {
  origin = is_origin;
  path = is_path;
  communities = communities;
  large = large;
  unknown = unknown.sorted;
  unknown_types = unknown.unknown;
  «partial» = record { below = counts.below; aggregator = counts.aggregator; communities = counts.communities; large = counts.large };
}

attrs_valid : (enc : Encoding) (hop : Addr) (attributes : List Attribute) → HaveBytes attributes → IfSome (attrs_said enc hop attributes) IsValid
attrs_valid enc hop attributes have =
    with_valid hop (value_of (origin_said attributes)) (paths_said enc.as4 attributes).path (numbers_said enc.external attributes) (paths_said enc.as4 attributes) (lists_said attributes)
    (partial_bits (paths_said enc.as4 attributes) (lists_said attributes) attributes)
    (origin_read attributes) (paths_read enc.as4 attributes have) (communities_read attributes) (larges_read attributes) (unknown_read attributes)
    (partial_read (paths_said enc.as4 attributes) (lists_said attributes) attributes)

say_valid : (enc : Encoding) (attributes : List Attribute) → HaveBytes attributes → IfSome (attributes_say enc attributes).attrs IsValid
unfolding attributes_say
say_valid enc attributes have = attrs_valid enc (hop_of (next_hop_of attributes) (reach_said enc attributes)) attributes have

unless_valid : (fault : Option ℕ) (said : ReadAttrs) → IfSome said.attrs IsValid → IfOk (said_unless fault said) (λ s. IfSome s.attrs IsValid)
unless_valid (Some sub) said valid = tt
unless_valid None said valid = valid

pub field_valid : (enc : Encoding) (field : List ℕ) → AreBytes field → IfOk (field_says enc field) (λ said. IfSome said.attrs IsValid)
unfolding field_says
field_valid enc field are =
    unless_valid (field_fault enc (cut attribute_at field)) (attributes_say enc (cut attribute_at field).items) (say_valid enc (cut attribute_at field).items (values_are field are))
