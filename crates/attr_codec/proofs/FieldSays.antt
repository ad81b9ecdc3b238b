-- An attribute field that was written says what was sent.
use Rattle.std.proofs.Common.{◌≡◌, ◌∙◌, ℕ, ◌+◌, ◌%◌, ◌^◌, ◌<◌, ◌≤◌, Bool, true, false, cond, ◌||◌, List, [], ◌∷◌, ◌++◌, length, Option, Some, None, Ok, refl, ap, sym, subst, arith, append-nil, lit<}
use Rattle.std.specs.Prelude.{nat_lt, option_map, is_some}
use Rattle.std.specs.Option.{option_or}
use Rattle.std.specs.List.{AllByRecursion}
use Rattle.std.proofs.Math.Nat.{mod-eq_of_lt}
use Rattle.byteorder.specs.Endian.{big_bytes, big_number}
use Rattle.byteorder.specs.Numbers.{big_number-reads_back}
use Rattle.wire_buf.specs.Written.{bytes_at-written, number_at-written}
use Rattle.net_base.specs.declared.addr.Family.{Family}
use Rattle.net_base.specs.declared.addr.Family.TheVariants.{V4, V6}
use Rattle.net_base.specs.declared.addr.Addr.{Addr}
use Rattle.net_base.specs.declared.prefix.Prefix.{Prefix}
use Rattle.net_base.specs.Width.{width_of}
use Rattle.net_base.specs.Bits.{addr_of}
use Rattle.net_base.proofs.Equal.{same_addr}
use Rattle.bgp_wire.specs.declared.open.Encoding.{Encoding}
use Rattle.attr_model.specs.declared.attrs.Attrs.{Attrs}
use Rattle.attr_codec.specs.declared.said.Said.TheVariants.{Nothing, Value}
use Rattle.attr_codec.specs.declared.said.Flags.TheVariants.{WellKnown, Optional}
use Rattle.attr_codec.specs.declared.outcome.ReadAttrs.{ReadAttrs}
use Rattle.attr_codec.specs.declared.parts.Numbers.{Numbers}
use Rattle.attr_codec.specs.declared.parts.Paths.{Paths}
use Rattle.attr_codec.specs.declared.parts.Lists.{Lists}
use Rattle.attr_codec.specs.Cut.{cut}
use Rattle.attr_codec.specs.Field.{Attribute, attribute_at, first_of}
use Rattle.attr_codec.specs.Flags.{fits}
use Rattle.attr_codec.specs.Fault.{first_fault, with_kind}
use Rattle.attr_codec.specs.Said.{value_of, is_malformed}
use Rattle.attr_codec.specs.Prefixes.{IsOf, addr_with, prefixes_bytes}
use Rattle.attr_codec.specs.Reach.{agreed_family, reach_parts, unreach_parts, reach_judged, unreach_judged, reached, unreached}
use Rattle.attr_codec.specs.Values.{origin_said, path_said, number_said, next_hop_said, atomic_said, aggregator_said, as4_path_said, as4_aggregator_said}
use Rattle.attr_codec.specs.Communities.{communities_said, large_said}
use Rattle.attr_codec.specs.Parts.{numbers_said, paths_said, lists_said, partial_bits}
use Rattle.attr_codec.specs.Read.{reach_said, unreach_said, is_reach_malformed, is_unreach_malformed, next_hop_of, hop_of, attrs_with, attrs_said, is_route_malformed, is_some_malformed, attributes_say, field_says}
use Rattle.attr_codec.specs.Written.{next_hop_value, row_bytes, rows_bytes, attrs_rows, attrs_bytes, reach_row, unreach_row, IsShort}
use Rattle.attr_codec.specs.ReadBack.{IsSent, next_hop_sent, sent, unsent, nothing_said, reach_bytes}
use Rattle.attr_codec.proofs.Cutting.{cut_end}
use Rattle.attr_codec.proofs.ItemsBack.{byte_there}
use Rattle.attr_codec.proofs.PrefixesBack.{prefixes_back}
use Rattle.attr_codec.proofs.Rows.{attribute_of, rows_attributes, rows_cut, found_at, quiet_rows}
use Rattle.attr_codec.proofs.Gaps.{known_at}
use Rattle.attr_codec.proofs.ValuesBack.{origin_back, number_back}
use Rattle.attr_codec.proofs.FieldBack.{Holds, good_paths, good_lists, numbers_are, paths_are, lists_are, partial_is}
use Rattle.attr_codec.proofs.Sending.{all_good, all_quiet, holds_plain, holds_behind}

-- ---- hops

v4_hop : (hop : Addr) → hop.family ≡ V4 → addr_of V4 hop.bits ≡ hop
v4_hop hop e =
    let low : hop.bits < 2 ^ 32 = subst (λ (f : Family). hop.bits < 2 ^ width_of f) e hop.in_family in
    same_addr (addr_of V4 hop.bits) hop (sym e) (mod-eq_of_lt low)

v6_hop : (hop : Addr) → hop.family ≡ V6 → addr_with V6 (big_bytes 16 hop.bits) ≡ hop
v6_hop hop e =
    let low : hop.bits < 2 ^ 128 = subst (λ (f : Family). hop.bits < 2 ^ width_of f) e hop.in_family in
    let read : big_number 16 (big_bytes 16 hop.bits) ≡ hop.bits = big_number-reads_back 16 hop.bits [] low in
    same_addr (addr_with V6 (big_bytes 16 hop.bits)) hop (sym e) (ap (λ b. b % 2 ^ 128) read ∙ mod-eq_of_lt low)

-- what NEXT_HOP says
pub record SaysHop (attributes : List Attribute) (hop : Option Addr) : Type 0 where
  pub says : next_hop_of attributes ≡ hop
  pub good : is_malformed (next_hop_said attributes) ≡ false

says_v4 : (enc : Encoding) (attrs : Attrs) (attributes : List Attribute) → attrs.hop.family ≡ V4 → Holds enc attrs attributes → SaysHop attributes (Some attrs.hop)
says_v4 enc attrs attributes e holds =
    let low : attrs.hop.bits < 2 ^ 32 = subst (λ (f : Family). attrs.hop.bits < 2 ^ width_of f) e attrs.hop.in_family in
    let said : next_hop_said attributes ≡ Value attrs.hop.bits = number_back WellKnown 64 3 (Some attrs.hop.bits) attributes low
    (holds.known 3 refl refl ∙ ap (λ (f : Family). option_or (option_map (attribute_of 64 3) (next_hop_value f attrs.hop.bits)) None) e) refl refl in
    record { says = rw said (ap (λ (a : Addr). Some a) (v4_hop attrs.hop e)); good = rw said refl }

says_v6 : (enc : Encoding) (attrs : Attrs) (attributes : List Attribute) → attrs.hop.family ≡ V6 → Holds enc attrs attributes → SaysHop attributes None
says_v6 enc attrs attributes e holds =
    let said : next_hop_said attributes ≡ Nothing = number_back WellKnown 64 3 None attributes tt
    (holds.known 3 refl refl ∙ ap (λ (f : Family). option_or (option_map (attribute_of 64 3) (next_hop_value f attrs.hop.bits)) None) e) refl refl in
    record { says = rw said refl; good = rw said refl }

-- what the attributes of RFC 4760 say
pub record SaysReach (enc : Encoding) (attributes : List Attribute) (reach : Option (Family × Addr × List Prefix)) : Type 0 where
  pub says : reach_said enc attributes ≡ reach
  pub good : is_reach_malformed enc attributes ≡ false

no_reach : (enc : Encoding) (attributes : List Attribute) → first_of 14 attributes ≡ None → SaysReach enc attributes None
no_reach enc attributes e = record { says = rw e refl; good = rw e refl }

-- ---- all of it together

abbrev numbers_of_attrs : Attrs → Numbers
numbers_of_attrs attrs = record { med = attrs.med; local_pref = attrs.local_pref; atomic = attrs.atomic; malformed = false }

attrs_from : (enc : Encoding) (hop : Addr) (attrs : Attrs) (attributes : List Attribute) (o : Option ℕ) (n : Numbers) (p : Paths) (l : Lists) → o ≡ Some attrs.origin → n ≡ numbers_of_attrs attrs → p ≡ good_paths attrs → l ≡ good_lists attrs
    → partial_bits (good_paths attrs) (good_lists attrs) attributes ≡ attrs.«partial» → attrs_with hop o p.path n p l (partial_bits p l attributes) ≡ Some (record attrs { hop = hop; weight = 0 })
attrs_from enc hop attrs attributes o n p l eo en ep el bits =
    ap (λ (x : Option ℕ). attrs_with hop x p.path n p l (partial_bits p l attributes)) eo
    ∙ ap (λ (x : Numbers). attrs_with hop (Some attrs.origin) p.path x p l (partial_bits p l attributes)) en
    ∙ ap (λ (x : Paths). attrs_with hop (Some attrs.origin) x.path (numbers_of_attrs attrs) x l (partial_bits x l attributes)) ep
    ∙ ap (λ (x : Lists). attrs_with hop (Some attrs.origin) (Some attrs.path) (numbers_of_attrs attrs) (good_paths attrs) x (partial_bits (good_paths attrs) x attributes)) el
    ∙ ap (λ (x : ℕ). attrs_with hop (Some attrs.origin) (Some attrs.path) (numbers_of_attrs attrs) (good_paths attrs) (good_lists attrs) x) bits

none_from : (b : Bool) (n : Numbers) (p : Paths) (l : Lists) (attrs : Attrs) → b ≡ false → n ≡ numbers_of_attrs attrs → p ≡ good_paths attrs → l ≡ good_lists attrs → (((b || n.malformed) || p.malformed) || l.malformed) ≡ false
none_from b n p l attrs eb en ep el = rw (eb, en, ep, el) refl

attrs_back : (enc : Encoding) (hop : Addr) (attrs : Attrs) (attributes : List Attribute) → IsSent enc attrs → Holds enc attrs attributes → (attrs_said enc hop attributes ≡ Some (record attrs { hop = hop })) × (is_route_malformed enc attributes ≡ false)
attrs_back enc hop attrs attributes is holds =
    let origin : origin_said attributes ≡ Value attrs.origin = origin_back attrs.origin attributes is.valid.origin (holds.known 1 refl refl) in
    let numbers = numbers_are enc attrs attributes is holds in
    let paths = paths_are enc attrs attributes is holds in
    let lists = lists_are enc attrs attributes is holds in
    let bits = partial_is enc attrs attributes is holds in (
      attrs_from enc hop attrs attributes (value_of (origin_said attributes)) (numbers_said enc.external attributes) (paths_said enc.as4 attributes) (lists_said attributes) (ap value_of origin) numbers paths lists bits ∙ ap (λ w. Some (record attrs { hop = hop; weight = w })) (sym is.weight),
      none_from (is_malformed (origin_said attributes)) (numbers_said enc.external attributes) (paths_said enc.as4 attributes) (lists_said attributes) attrs (ap is_malformed origin) numbers paths lists,
    )

say_back : (enc : Encoding) (at : Addr) (attrs : Attrs) (attributes : List Attribute) (hop : Option Addr) (reach : Option (Family × Addr × List Prefix)) → IsSent enc attrs → Holds enc attrs attributes
    → SaysHop attributes hop → SaysReach enc attributes reach → hop_of hop reach ≡ at → first_of 15 attributes ≡ None
    → attributes_say enc attributes ≡ record { attrs = Some (record attrs { hop = at }); withdraw = false; next_hop = hop; reach = reach; unreach = None }
unfolding attributes_say
say_back enc at attrs attributes hop reach is holds next mp same none =
    let route = attrs_back enc at attrs attributes is holds in
    let hop_is : hop_of (next_hop_of attributes) (reach_said enc attributes) ≡ at = rw (next.says, mp.says) same in
    let said : attrs_said enc (hop_of (next_hop_of attributes) (reach_said enc attributes)) attributes ≡ Some (record attrs { hop = at }) = ap (λ (h : Addr). attrs_said enc h attributes) hop_is ∙ route.0 in
    let bad : is_unreach_malformed enc attributes ≡ false = rw none refl in
    let withdrawn : unreach_said enc attributes ≡ None = rw none refl in
    let malformed : is_some_malformed enc attributes ≡ false = rw (route.1, next.good, mp.good, bad) refl in
    rw (said, malformed, withdrawn, next.says, mp.says) refl

-- a field that is cut into attributes without a NOTIFICATION says what these say
says_cut : (enc : Encoding) (field : List ℕ) (attributes : List Attribute) (said : ReadAttrs) → cut attribute_at field ≡ record { items = attributes; whole = true } → first_fault enc (λ kind. false) attributes ≡ None → attributes_say enc attributes ≡ said → field_says enc field ≡ Ok said
unfolding field_says
says_cut enc field attributes said c none say = rw (c, none, say) refl

pub plain_back : (enc : Encoding) (attrs : Attrs) → IsSent enc attrs → attrs.hop.family ≡ V4 → field_says enc (attrs_bytes enc attrs) ≡ Ok (sent attrs None)
unfolding attrs_bytes
plain_back enc attrs is e =
    let attributes = rows_attributes (attrs_rows enc attrs) in
    let holds = holds_plain enc attrs is.valid in
    let next = says_v4 enc attrs attributes e holds in
    let no_mp : first_of 14 attributes ≡ None = found_at 14 (attrs_rows enc attrs) ∙ known_at enc attrs 14 refl is.valid.unknown_types in
    let say = say_back enc attrs.hop attrs attributes (Some attrs.hop) None is holds next (no_reach enc attributes no_mp) refl (holds.known 15 refl refl) in
    let quiet = quiet_rows enc (attrs_rows enc attrs) (all_quiet enc attrs is.valid.unknown_types) (λ kind. false) in
    says_cut enc (rows_bytes (attrs_rows enc attrs)) attributes (sent attrs None) (rows_cut (attrs_rows enc attrs) (all_good enc attrs is.short is.width)) quiet
    (say ∙ ap (λ (h : Option Addr). record { attrs = Some attrs; withdraw = false; next_hop = h; reach = None; unreach = None }) (ap (next_hop_sent attrs.hop) (sym e)))

-- Attributes of IPv6 without prefixes say no hop.
pub bare_back : (enc : Encoding) (attrs : Attrs) → IsSent enc attrs → attrs.hop.family ≡ V6
    → field_says enc (attrs_bytes enc attrs) ≡ Ok (record { attrs = Some (record attrs { hop = addr_of V4 0 }); withdraw = false; next_hop = None; reach = None; unreach = None })
unfolding attrs_bytes
bare_back enc attrs is e =
    let attributes = rows_attributes (attrs_rows enc attrs) in
    let holds = holds_plain enc attrs is.valid in
    let next = says_v6 enc attrs attributes e holds in
    let no_mp : first_of 14 attributes ≡ None = found_at 14 (attrs_rows enc attrs) ∙ known_at enc attrs 14 refl is.valid.unknown_types in
    let say = say_back enc (addr_of V4 0) attrs attributes None None is holds next (no_reach enc attributes no_mp) refl (holds.known 15 refl refl) in
    let quiet = quiet_rows enc (attrs_rows enc attrs) (all_quiet enc attrs is.valid.unknown_types) (λ kind. false) in
    says_cut enc (rows_bytes (attrs_rows enc attrs)) attributes _ (rows_cut (attrs_rows enc attrs) (all_good enc attrs is.short is.width)) quiet say

-- ---- MP_REACH_NLRI and MP_UNREACH_NLRI

v6_agreed : (enc : Encoding) → enc.v6 ≡ true → agreed_family enc 2 1 ≡ Some V6
v6_agreed enc e = rw e refl

abbrev reach_value : ℕ → List ℕ → List ℕ
reach_value hop nlri = ((0 ∷ 2 ∷ 1 ∷ 16 ∷ []) ++ big_bytes 16 hop) ++ ((0 ∷ []) ++ nlri)

parts_of_reach : (enc : Encoding) (hop : ℕ) (nlri : List ℕ) → reach_parts enc (reach_value hop nlri) ≡ Some (agreed_family enc 2 1, big_bytes 16 hop, nlri)
unfolding reach_parts
parts_of_reach enc hop nlri =
    let afi = number_at-written 2 2 (1 ∷ 16 ∷ (big_bytes 16 hop ++ (0 ∷ nlri))) (lit< tt) in
    let safi = byte_there 1 (16 ∷ (big_bytes 16 hop ++ (0 ∷ nlri))) in
    let size = byte_there 16 (big_bytes 16 hop ++ (0 ∷ nlri)) in
    let body = bytes_at-written 16 (big_bytes 16 hop) (0 ∷ nlri) refl in
    let reserved = byte_there 0 nlri in
    rw (afi, safi, size, body, reserved) refl

parts_of_unreach : (enc : Encoding) (nlri : List ℕ) → unreach_parts enc ((0 ∷ 2 ∷ 1 ∷ []) ++ nlri) ≡ Some (agreed_family enc 2 1, nlri)
unfolding unreach_parts
parts_of_unreach enc nlri =
    let afi = number_at-written 2 2 (1 ∷ nlri) (lit< tt) in
    let safi = byte_there 1 nlri in
    rw (afi, safi) refl

reached_back : (enc : Encoding) (hop : Addr) (prefixes : List Prefix) → enc.v6 ≡ true → hop.family ≡ V6 → AllByRecursion (IsOf V6) prefixes → reached (reach_parts enc (reach_value hop.bits (prefixes_bytes prefixes))) ≡ Some (V6, hop, prefixes)
reached_back enc hop prefixes v6 e each =
    ap reached (parts_of_reach enc hop.bits (prefixes_bytes prefixes) ∙ ap (λ (f : Option Family). Some (f, big_bytes 16 hop.bits, prefixes_bytes prefixes)) (v6_agreed enc v6))
    ∙ ap (option_map (λ (ps : List Prefix). (V6, addr_with V6 (big_bytes 16 hop.bits), ps))) (prefixes_back V6 prefixes each)
    ∙ ap (λ (a : Addr). Some (V6, a, prefixes)) (v6_hop hop e)

judged_back : (enc : Encoding) (hop : ℕ) (prefixes : List Prefix) → enc.v6 ≡ true → AllByRecursion (IsOf V6) prefixes → reach_judged (reach_parts enc (reach_value hop (prefixes_bytes prefixes))) ≡ None
judged_back enc hop prefixes v6 each =
    ap reach_judged (parts_of_reach enc hop (prefixes_bytes prefixes) ∙ ap (λ (f : Option Family). Some (f, big_bytes 16 hop, prefixes_bytes prefixes)) (v6_agreed enc v6))
    ∙ ap (λ (ps : Option (List Prefix)). cond (is_some ps) None (Some 10)) (prefixes_back V6 prefixes each)

fits_long : (b : Bool) → fits Optional (cond b 144 128) ≡ true
fits_long true = refl
fits_long false = refl

says_reach : (enc : Encoding) (hop : Addr) (prefixes : List Prefix) (attributes : List Attribute) → enc.v6 ≡ true → hop.family ≡ V6 → AllByRecursion (IsOf V6) prefixes
    → first_of 14 attributes ≡ Some (attribute_of 128 14 (reach_value hop.bits (prefixes_bytes prefixes))) → SaysReach enc attributes (Some (V6, hop, prefixes))
says_reach enc hop prefixes attributes v6 e each found =
    let back = reached_back enc hop prefixes v6 e each in
    record {
      says = rw found back;
      good = rw (found, back, fits_long (nat_lt 255 (length (reach_value hop.bits (prefixes_bytes prefixes))))) refl;
    }

pub reach_back : (enc : Encoding) (attrs : Attrs) (prefixes : List Prefix) → IsSent enc attrs → attrs.hop.family ≡ V6 → enc.v6 ≡ true → AllByRecursion (IsOf V6) prefixes → 21 + length (prefixes_bytes prefixes) ≤ 65535
    → field_says enc (reach_bytes enc attrs prefixes) ≡ Ok (sent attrs (Some (V6, attrs.hop, prefixes)))
unfolding attrs_bytes
reach_back enc attrs prefixes is e v6 each short =
    let front = reach_row attrs.hop.bits prefixes in
    let attributes = rows_attributes (front ∷ attrs_rows enc attrs) in
    let value = reach_value attrs.hop.bits (prefixes_bytes prefixes) in
    let holds = holds_behind enc attrs front refl is.valid in
    let next = says_v6 enc attrs attributes e holds in
    let found : first_of 14 attributes ≡ Some (attribute_of 128 14 value) = found_at 14 (front ∷ attrs_rows enc attrs) in
    let mp = says_reach enc attrs.hop prefixes attributes v6 e each found in
    let say = say_back enc attrs.hop attrs attributes None (Some (V6, attrs.hop, prefixes)) is holds next mp refl (holds.known 15 refl refl) in
    let quiet : first_fault enc (λ kind. false) attributes ≡ None = rw (judged_back enc attrs.hop.bits prefixes v6 each) (quiet_rows enc (attrs_rows enc attrs) (all_quiet enc attrs is.valid.unknown_types) (with_kind (λ kind. false) 14)) in
    let fits_value : IsShort value = omega arith in
    says_cut enc (rows_bytes (front ∷ attrs_rows enc attrs)) attributes (sent attrs (Some (V6, attrs.hop, prefixes))) (rows_cut (front ∷ attrs_rows enc attrs) (record { one = refl; two = refl; short = fits_value }, all_good enc attrs is.short is.width)) quiet
    (say ∙ ap (λ (h : Option Addr). record { attrs = Some attrs; withdraw = false; next_hop = h; reach = Some (V6, attrs.hop, prefixes); unreach = None }) (ap (next_hop_sent attrs.hop) (sym e)))

-- MP_UNREACH_NLRI alone
abbrev alone : List ℕ → List Attribute
alone value = attribute_of 128 15 value ∷ []

no_numbers : (b : Bool) (value : List ℕ) → (numbers_said b (alone value)).malformed ≡ false
unfolding number_said atomic_said
no_numbers true value = refl
no_numbers false value = refl

no_paths : (b : Bool) (value : List ℕ) → (paths_said b (alone value)).malformed ≡ false
unfolding path_said aggregator_said as4_path_said as4_aggregator_said
no_paths true value = refl
no_paths false value = refl

no_lists : (value : List ℕ) → (lists_said (alone value)).malformed ≡ false
unfolding communities_said large_said
no_lists value = refl

no_origin : (value : List ℕ) → origin_said (alone value) ≡ Nothing
unfolding origin_said
no_origin value = refl

no_hop : (value : List ℕ) → next_hop_said (alone value) ≡ Nothing
unfolding number_said
no_hop value = refl

alone_back : (enc : Encoding) (value : List ℕ) (prefixes : List Prefix) → unreached (unreach_parts enc value) ≡ Some (V6, prefixes) → attributes_say enc (alone value) ≡ unsent prefixes
unfolding attributes_say
alone_back enc value prefixes back =
    let route : is_route_malformed enc (alone value) ≡ false = rw (no_origin value, no_numbers enc.external value, no_paths enc.as4 value, no_lists value) refl in
    rw (route, no_hop value, no_origin value, back, fits_long (nat_lt 255 (length value))) refl

-- and an empty field
empty_numbers : (b : Bool) → (numbers_said b []).malformed ≡ false
unfolding number_said atomic_said
empty_numbers true = refl
empty_numbers false = refl

empty_paths : (b : Bool) → (paths_said b []).malformed ≡ false
unfolding path_said aggregator_said as4_path_said as4_aggregator_said
empty_paths true = refl
empty_paths false = refl

empty_lists : (lists_said []).malformed ≡ false
unfolding communities_said large_said
empty_lists = refl

empty_origin : origin_said [] ≡ Nothing
unfolding origin_said
empty_origin = refl

empty_hop : next_hop_said [] ≡ Nothing
unfolding number_said
empty_hop = refl

empty_back : (enc : Encoding) → attributes_say enc [] ≡ nothing_said
unfolding attributes_say
empty_back enc =
    let route : is_route_malformed enc [] ≡ false = rw (empty_origin, empty_numbers enc.external, empty_paths enc.as4, empty_lists) refl in
    rw (route, empty_hop, empty_origin) refl

pub nothing_back : (enc : Encoding) → field_says enc [] ≡ Ok nothing_said
nothing_back enc = says_cut enc [] [] nothing_said (cut_end attribute_at) refl (empty_back enc)

pub unreach_back : (enc : Encoding) (prefixes : List Prefix) → enc.v6 ≡ true → AllByRecursion (IsOf V6) prefixes → 3 + length (prefixes_bytes prefixes) ≤ 65535 → field_says enc (row_bytes (unreach_row prefixes)) ≡ Ok (unsent prefixes)
unreach_back enc prefixes v6 each short =
    let r = unreach_row prefixes in
    let value = (0 ∷ 2 ∷ 1 ∷ []) ++ prefixes_bytes prefixes in
    let fits_value : IsShort value = omega arith in
    let parts = parts_of_unreach enc (prefixes_bytes prefixes) ∙ ap (λ (f : Option Family). Some (f, prefixes_bytes prefixes)) (v6_agreed enc v6) in
    let judged : unreach_judged (unreach_parts enc value) ≡ None = ap unreach_judged parts ∙ ap (λ (ps : Option (List Prefix)). cond (is_some ps) None (Some 10)) (prefixes_back V6 prefixes each) in
    let back : unreached (unreach_parts enc value) ≡ Some (V6, prefixes) = ap unreached parts ∙ ap (option_map (λ (ps : List Prefix). (V6, ps))) (prefixes_back V6 prefixes each) in
    let quiet : first_fault enc (λ kind. false) (rows_attributes (r ∷ [])) ≡ None = rw judged refl in
    ap (field_says enc) (sym (append-nil (row_bytes r)))
    ∙ says_cut enc (rows_bytes (r ∷ [])) (rows_attributes (r ∷ [])) (unsent prefixes) (rows_cut (r ∷ []) (record { one = refl; two = refl; short = fits_value }, tt)) quiet
    (alone_back enc value prefixes back)
