-- A field that was written says the attributes that were sent.
use Rattle.std.proofs.Common.{◌≡◌, ◌∙◌, ℕ, Bool, true, false, cond, List, [], ◌∷◌, map, Option, Some, None, refl, ap, subst}
use Rattle.std.specs.Prelude.{nat_eq, option_map, is_some}
use Rattle.std.specs.Option.{option_or}
use Rattle.byteorder.specs.Endian.{big_bytes}
use Rattle.bgp_wire.specs.declared.open.Encoding.{Encoding}
use Rattle.attr_model.specs.declared.attrs.Attrs.{Attrs}
use Rattle.attr_model.specs.declared.path.Segment.{Segment}
use Rattle.attr_model.specs.Valid.{is_known}
use Rattle.attr_codec.specs.declared.said.Said.TheVariants.{Nothing, Value}
use Rattle.attr_codec.specs.declared.said.Flags.TheVariants.{WellKnown, Optional}
use Rattle.attr_codec.specs.declared.parts.Paths.{Paths}
use Rattle.attr_codec.specs.declared.parts.Lists.{Lists}
use Rattle.attr_codec.specs.Field.{Attribute, first_of}
use Rattle.attr_codec.specs.Said.{value_of, is_malformed}
use Rattle.attr_codec.specs.Path.{exceeds, path_bytes, path_exceeds}
use Rattle.attr_codec.specs.Values.{path_said, med_said, local_pref_said, aggregator_said, as4_aggregator_said, as4_path_said, ignores_as4, joined_aggregators}
use Rattle.attr_codec.specs.Communities.{communities_said, large_said}
use Rattle.attr_codec.specs.Unknown.{unknown_of}
use Rattle.attr_codec.specs.Parts.{numbers_said, with_as4_path, paths_said, lists_said, is_filled, partial_bits}
use Rattle.attr_codec.specs.Written.{aggregator_bytes, large_bytes, list_value, kept_flags, as4_path_value, as4_aggregator_value}
use Rattle.attr_codec.specs.ReadBack.{IsSent}
use Rattle.attr_codec.proofs.Rows.{attribute_of, row_at}
use Rattle.attr_codec.proofs.Gaps.{known_rows}
use Rattle.attr_codec.proofs.Gathered.{HoldsUnknown, unknown_back}
use Rattle.attr_codec.proofs.ItemsBack.{told_segment}
use Rattle.attr_codec.proofs.ValuesBack.{as_said, value_said, good_said, path_said_back, number_back, atomic_back, told_aggregator, aggregator_back, sent_aggregator, as4_aggregator_back, whole_path, small_path, joined_told, as4_path_back, filled, communities_back, large_back, unwrap_filled, bit_back, bits_are}

-- under each type of a field stands what its row says
pub record Holds (enc : Encoding) (attrs : Attrs) (attributes : List Attribute) : Type 0 where
  pub known : (kind : ℕ) → is_known kind ≡ true → nat_eq 14 kind ≡ false → first_of kind attributes ≡ row_at kind (known_rows enc attrs)
  pub unknown : HoldsUnknown attributes attrs.unknown

atomic_said_is : (b : Bool) → (is_some (value_of (cond b (Value true) Nothing)) ≡ b) × (is_malformed (cond b (Value true) Nothing) ≡ false)
atomic_said_is true = (refl, refl)
atomic_said_is false = (refl, refl)

pref_by : (enc : Encoding) (attrs : Attrs) (attributes : List Attribute) → IsSent enc attrs → Holds enc attrs attributes → (b : Bool) → enc.external ≡ b → local_pref_said b attributes ≡ as_said attrs.local_pref
pref_by enc attrs attributes is holds true e =
    let none : attrs.local_pref ≡ None = is.local_pref e in
    rw none refl
pref_by enc attrs attributes is holds false e = number_back WellKnown 64 5 attrs.local_pref attributes is.width.local_pref (holds.known 5 refl refl) refl refl

pub numbers_are : (enc : Encoding) (attrs : Attrs) (attributes : List Attribute) → IsSent enc attrs → Holds enc attrs attributes
    → numbers_said enc.external attributes ≡ record { med = attrs.med; local_pref = attrs.local_pref; atomic = attrs.atomic; malformed = false }
numbers_are enc attrs attributes is holds =
    let med : med_said attributes ≡ as_said attrs.med = number_back Optional 128 4 attrs.med attributes is.width.med (holds.known 4 refl refl) refl refl in
    let pref = pref_by enc attrs attributes is holds enc.external refl in
    let atomic = atomic_back attrs.atomic attributes (holds.known 6 refl refl) in
    rw (med, pref, atomic, value_said attrs.med, value_said attrs.local_pref, good_said attrs.med, good_said attrs.local_pref, (atomic_said_is attrs.atomic).0, (atomic_said_is attrs.atomic).1) refl

joined_none : (aggregator : Option (ℕ × ℕ)) → joined_aggregators aggregator None ≡ aggregator
joined_none None = refl
joined_none (Some aggregator) = refl

not_ignored_none : (aggregator : Option (ℕ × ℕ)) → ignores_as4 aggregator None ≡ false
not_ignored_none None = refl
not_ignored_none (Some aggregator) = refl

told_aggregators : (aggregator : Option (ℕ × ℕ)) → option_map (told_aggregator true) aggregator ≡ aggregator
told_aggregators None = refl
told_aggregators (Some aggregator) = refl

-- the aggregator that is told in two octets, and the whole one
pub record AreOne (aggregator : Option (ℕ × ℕ)) : Type 0 where
  pub kept : ignores_as4 (option_map (told_aggregator false) aggregator) (sent_aggregator aggregator) ≡ false
  pub joined : joined_aggregators (option_map (told_aggregator false) aggregator) (sent_aggregator aggregator) ≡ aggregator

one_by : (aggregator : ℕ × ℕ) → (b : Bool) → exceeds aggregator.0 ≡ b → AreOne (Some aggregator)
one_by aggregator true e = record { kept = rw e refl; joined = rw e refl }
one_by aggregator false e = record { kept = rw e refl; joined = rw e refl }

one_of : (aggregator : Option (ℕ × ℕ)) → AreOne aggregator
one_of None = record { kept = refl; joined = refl }
one_of (Some aggregator) = one_by aggregator (exceeds aggregator.0) refl

abbrev pub good_paths : Attrs → Paths
good_paths attrs = record { path = Some attrs.path; aggregator = attrs.aggregator; malformed = false }

path_joined : (path : List Segment) → (b : Bool) → path_exceeds path ≡ b → with_as4_path false (Value (map (told_segment false) path)) (cond b (Some path) None) ≡ Some path
path_joined path true e = ap Some (joined_told path)
path_joined path false e = ap Some (small_path path e)

four_octets : (enc : Encoding) (attrs : Attrs) (attributes : List Attribute) → IsSent enc attrs → Holds enc attrs attributes → enc.as4 ≡ true → paths_said true attributes ≡ good_paths attrs
unfolding as4_path_said as4_aggregator_said
four_octets enc attrs attributes is holds e =
    let path : path_said true attributes ≡ Value attrs.path = path_said_back true attrs.path attributes is.valid.path is.width.path (subst (λ (b : Bool). first_of 2 attributes ≡ option_or (option_map (attribute_of 64 2) (Some (path_bytes b attrs.path))) None) e (holds.known 2 refl refl)) ∙ ap Value (whole_path attrs.path) in
    let aggregator : aggregator_said true attributes ≡ as_said attrs.aggregator = aggregator_back true attrs.«partial» attrs.aggregator attributes is.width.aggregator (subst (λ (b : Bool). first_of 7 attributes ≡ option_or (option_map (attribute_of (kept_flags attrs.«partial» 1) 7) (option_map (aggregator_bytes b) attrs.aggregator)) None) e (holds.known 7 refl refl)) ∙ ap as_said (told_aggregators attrs.aggregator) in
    rw (path, aggregator, value_said attrs.aggregator, good_said attrs.aggregator, joined_none attrs.aggregator) refl

two_octets : (enc : Encoding) (attrs : Attrs) (attributes : List Attribute) → IsSent enc attrs → Holds enc attrs attributes → enc.as4 ≡ false → paths_said false attributes ≡ good_paths attrs
two_octets enc attrs attributes is holds e =
    let path : path_said false attributes ≡ Value (map (told_segment false) attrs.path) = path_said_back false attrs.path attributes is.valid.path is.width.path (subst (λ (b : Bool). first_of 2 attributes ≡ option_or (option_map (attribute_of 64 2) (Some (path_bytes b attrs.path))) None) e (holds.known 2 refl refl)) in
    let aggregator : aggregator_said false attributes ≡ as_said (option_map (told_aggregator false) attrs.aggregator) = aggregator_back false attrs.«partial» attrs.aggregator attributes is.width.aggregator (subst (λ (b : Bool). first_of 7 attributes ≡ option_or (option_map (attribute_of (kept_flags attrs.«partial» 1) 7) (option_map (aggregator_bytes b) attrs.aggregator)) None) e (holds.known 7 refl refl)) in
    let whole : as4_path_said false attributes ≡ as_said (cond (path_exceeds attrs.path) (Some attrs.path) None) = as4_path_back attrs.path attributes is.valid.path is.width.path (subst (λ (b : Bool). first_of 17 attributes ≡ option_or (option_map (attribute_of 192 17) (as4_path_value b attrs.path)) None) e (holds.known 17 refl refl)) in
    let whole_aggregator : as4_aggregator_said false attributes ≡ as_said (sent_aggregator attrs.aggregator) = as4_aggregator_back attrs.aggregator attributes is.width.aggregator (subst (λ (b : Bool). first_of 18 attributes ≡ option_or (option_map (attribute_of 192 18) (as4_aggregator_value b attrs.aggregator)) None) e (holds.known 18 refl refl)) in
    let one = one_of attrs.aggregator in
    rw (
      path,
      aggregator,
      whole,
      whole_aggregator,
      value_said (option_map (told_aggregator false) attrs.aggregator),
      value_said (sent_aggregator attrs.aggregator),
      value_said (cond (path_exceeds attrs.path) (Some attrs.path) None),
      good_said (option_map (told_aggregator false) attrs.aggregator),
      good_said (sent_aggregator attrs.aggregator),
      good_said (cond (path_exceeds attrs.path) (Some attrs.path) None),
      one.kept,
      one.joined,
      path_joined attrs.path (path_exceeds attrs.path) refl,
    ) refl

paths_by : (enc : Encoding) (attrs : Attrs) (attributes : List Attribute) → IsSent enc attrs → Holds enc attrs attributes → (b : Bool) → enc.as4 ≡ b → paths_said b attributes ≡ good_paths attrs
paths_by enc attrs attributes is holds true e = four_octets enc attrs attributes is holds e
paths_by enc attrs attributes is holds false e = two_octets enc attrs attributes is holds e

pub paths_are : (enc : Encoding) (attrs : Attrs) (attributes : List Attribute) → IsSent enc attrs → Holds enc attrs attributes → paths_said enc.as4 attributes ≡ good_paths attrs
paths_are enc attrs attributes is holds = paths_by enc attrs attributes is holds enc.as4 refl

abbrev pub good_lists : Attrs → Lists
good_lists attrs = record { communities = attrs.communities; large = attrs.large; unknown = attrs.unknown; malformed = false }

pub lists_are : (enc : Encoding) (attrs : Attrs) (attributes : List Attribute) → IsSent enc attrs → Holds enc attrs attributes → lists_said attributes ≡ good_lists attrs
lists_are enc attrs attributes is holds =
    let communities : communities_said attributes ≡ as_said (filled attrs.communities) = communities_back attrs.«partial» attrs.communities attributes is.width.communities is.valid.communities (holds.known 8 refl refl) in
    let large : large_said attributes ≡ as_said (filled attrs.large) = large_back attrs.«partial» attrs.large attributes is.width.large is.valid.large (holds.known 32 refl refl) in
    let unknown : unknown_of attributes ≡ attrs.unknown = unknown_back attributes attrs.unknown holds.unknown is.width.unknown in
    rw (communities, large, unknown, unwrap_filled attrs.communities, unwrap_filled attrs.large, good_said (filled attrs.communities), good_said (filled attrs.large)) refl

some_map : {X : Type 0} (f : X → List ℕ) (o : Option X) → is_some o ≡ is_some (option_map f o)
some_map f None = refl
some_map f (Some x) = refl

filled_list : {X : Type 0} (f : X → List ℕ) (xs : List X) → is_filled xs ≡ is_some (list_value f xs)
filled_list f [] = refl
filled_list f (x ∷ xs) = refl

pub partial_is : (enc : Encoding) (attrs : Attrs) (attributes : List Attribute) → IsSent enc attrs → Holds enc attrs attributes → partial_bits (good_paths attrs) (good_lists attrs) attributes ≡ attrs.«partial»
partial_is enc attrs attributes is holds =
    let one = bit_back attrs.«partial» 1 7 (option_map (aggregator_bytes enc.as4) attrs.aggregator) (is_some attrs.aggregator) attributes (holds.known 7 refl refl) (some_map (aggregator_bytes enc.as4) attrs.aggregator) in
    let two = bit_back attrs.«partial» 2 8 (list_value (big_bytes 4) attrs.communities) (is_filled attrs.communities) attributes (holds.known 8 refl refl) (filled_list (big_bytes 4) attrs.communities) in
    let four = bit_back attrs.«partial» 4 32 (list_value large_bytes attrs.large) (is_filled attrs.large) attributes (holds.known 32 refl refl) (filled_list large_bytes attrs.large) in
    rw (one, two, four) (bits_are attrs is.valid.«partial»)
