-- What the attributes of a field say together.
use Rattle.std.specs.Prelude.{ℕ, ◌+◌, Bool, true, false, not, ◌==◌, ◌||◌, ◌&&◌, bit_and, is_some, if◌then◌else◌, List, [], ◌∷◌, Option, Some, None, unwrap_or}
use Rattle.attr_model.specs.declared.path.Segment.{Segment}
use Rattle.attr_codec.specs.declared.said.Said.{Said}
use Rattle.attr_codec.specs.declared.said.Said.TheVariants.{Nothing, Malformed, Value}
use Rattle.attr_codec.specs.declared.parts.Numbers.{Numbers}
use Rattle.attr_codec.specs.declared.parts.Paths.{Paths}
use Rattle.attr_codec.specs.declared.parts.Lists.{Lists}
use Rattle.attr_codec.specs.Field.{Attribute, first_of}
use Rattle.attr_codec.specs.Said.{value_of, is_malformed}
use Rattle.attr_codec.specs.Values.{med_said, local_pref_said, atomic_said, path_said, as4_path_said, aggregator_said, as4_aggregator_said, ignores_as4, joined_aggregators, joined_paths}
use Rattle.attr_codec.specs.Communities.{communities_said, large_said}
use Rattle.attr_codec.specs.Unknown.{unknown_of}

abbrev pub numbers_said : Bool → List Attribute → Numbers
numbers_said external attributes = record {
  med = value_of (med_said attributes);
  local_pref = value_of (local_pref_said external attributes);
  atomic = is_some (value_of (atomic_said attributes));
  malformed = (is_malformed (med_said attributes) || is_malformed (local_pref_said external attributes)) || is_malformed (atomic_said attributes);
}

-- AS_PATH, with AS4_PATH where that came and isn't ignored
abbrev pub with_as4_path : Bool → Said (List Segment) → Option (List Segment) → Option (List Segment)
with_as4_path ignored Nothing as4_path = None
with_as4_path ignored Malformed as4_path = None
with_as4_path ignored (Value path) None = Some path
with_as4_path ignored (Value path) (Some as4_path) = if ignored then Some path else Some (joined_paths path as4_path)

abbrev pub paths_said : Bool → List Attribute → Paths
paths_said as4 attributes = record {
  path = with_as4_path (ignores_as4 (value_of (aggregator_said as4 attributes)) (value_of (as4_aggregator_said as4 attributes))) (path_said as4 attributes) (value_of (as4_path_said as4 attributes));
  aggregator = joined_aggregators (value_of (aggregator_said as4 attributes)) (value_of (as4_aggregator_said as4 attributes));
  malformed = (is_malformed (path_said as4 attributes) || is_malformed (as4_path_said as4 attributes)) || (is_malformed (aggregator_said as4 attributes) || is_malformed (as4_aggregator_said as4 attributes));
}

abbrev pub lists_said : List Attribute → Lists
lists_said attributes = record {
  communities = unwrap_or (value_of (communities_said attributes)) [];
  large = unwrap_or (value_of (large_said attributes)) [];
  unknown = unknown_of attributes;
  malformed = is_malformed (communities_said attributes) || is_malformed (large_said attributes);
}

-- The partial bit (32) of the first attribute of a type, as a bit of its own where the attribute counts.
abbrev pub has_partial_bit : Option Attribute → Bool
has_partial_bit None = false
has_partial_bit (Some attribute) = not (bit_and attribute.flags 32 == 0)

abbrev pub partial_bit : Bool → ℕ → ℕ → List Attribute → ℕ
partial_bit counts kind bit attributes = if counts && has_partial_bit (first_of kind attributes) then bit else 0

abbrev pub is_filled : {X : Type 0} → List X → Bool
is_filled [] = false
is_filled (x ∷ xs) = true

abbrev pub partial_bits : Paths → Lists → List Attribute → ℕ
partial_bits paths lists attributes =
    partial_bit (is_some paths.aggregator) 7 1 attributes + partial_bit (is_filled lists.communities) 8 2 attributes + partial_bit (is_filled lists.large) 32 4 attributes
