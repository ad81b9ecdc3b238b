-- The values that attributes say are valid.
use Rattle.std.proofs.Common.{◌≡◌, ℕ, ◌≤◌, Bool, true, false, cond, ◌&&◌, List, [], ◌∷◌, length, Option, Some, None, refl, arith}
use Rattle.std.specs.Prelude.{nat_le, slice_index, unwrap_or, IfSome, ◌==◌}
use Rattle.std.specs.List.{AllByRecursion}
use Rattle.std.specs.List.Sorted.{IsStrictlySortedBy}
use Rattle.std.specs.Ordering.{nat_cmp}
use Rattle.std.proofs.lemmas.Bool.Decides.{nat_tests}
use Rattle.std.proofs.lemmas.Cmp.{nat_cmp_total}
use Rattle.bgp_wire.specs.Message.{AreBytes}
use Rattle.attr_model.specs.declared.path.Segment.{Segment}
use Rattle.attr_model.specs.Valid.{large_cmp, IsPath}
use Rattle.attr_codec.specs.declared.said.Said.{Said}
use Rattle.attr_codec.specs.declared.said.Said.TheVariants.{Nothing, Malformed, Value}
use Rattle.attr_codec.specs.declared.said.Flags.TheVariants.{WellKnown, OptionalTransitive}
use Rattle.attr_codec.specs.Ascending.{ascending}
use Rattle.attr_codec.specs.Field.{Attribute, is_of, first_of}
use Rattle.attr_codec.specs.Flags.{fits}
use Rattle.attr_codec.specs.Large.{larges_of}
use Rattle.attr_codec.specs.Said.{◌>>=◌, or_malformed, or_dropped, value_of, bytes_with, bytes_said}
use Rattle.attr_codec.specs.Path.{numbers_in, path_of}
use Rattle.attr_codec.specs.Values.{origin_of, origin_said, path_said, as4_path_said}
use Rattle.attr_codec.specs.Communities.{is_ragged, communities_of, communities_said, larges_said_of, large_said}
use Rattle.attr_codec.specs.Parts.{with_as4_path, paths_said, lists_said}
use Rattle.attr_model.proofs.LargeOrder.{large_total}
use Rattle.attr_codec.proofs.Ascends.{none_sorted, ascending_sorted}
use Rattle.attr_codec.proofs.PathsRead.{path_read, joined_is}

-- what holds of a value that has to be there, and of one that is dropped where it is bad
has_to : {A B : Type 0} (P : B → Type 0) (f : A → Option B) (said : Said A) → ((x : A) → said ≡ Value x → IfSome (f x) P) → IfSome (value_of (said >>= λ x. or_malformed (f x))) P
has_to P f Nothing h = tt
has_to P f Malformed h = tt
has_to P f (Value x) h = by (f x) (h x refl)
  where
    by : (o : Option _) → IfSome o P → IfSome (value_of (or_malformed o)) P
    by None is = tt
    by (Some y) is = is

may : {A B : Type 0} (P : B → Type 0) (f : A → Option B) (said : Said A) → ((x : A) → said ≡ Value x → IfSome (f x) P) → IfSome (value_of (said >>= λ x. or_dropped (f x))) P
may P f Nothing h = tt
may P f Malformed h = tt
may P f (Value x) h = by (f x) (h x refl)
  where
    by : (o : Option _) → IfSome o P → IfSome (value_of (or_dropped o)) P
    by None is = tt
    by (Some y) is = is

-- ---- ORIGIN

origin_by : (b : Bool) (n : ℕ) (c : Bool) → nat_le n 2 ≡ c → IfSome (cond (b && c) (Some n) None) (λ origin. origin ≤ 2)
origin_by true n true e = grind (arith, nat_tests)
origin_by true n false e = tt
origin_by false n c e = tt

origin_is : (value : List ℕ) → IfSome (origin_of value) (λ origin. origin ≤ 2)
origin_is value = origin_by (length value == 1) (slice_index value 0) (nat_le (slice_index value 0) 2) refl

pub origin_read : (attributes : List Attribute) → IfSome (value_of (origin_said attributes)) (λ origin. origin ≤ 2)
unfolding origin_said
origin_read attributes = has_to (λ origin. origin ≤ 2) origin_of (bytes_said (fits WellKnown) 1 attributes) (λ value e. origin_is value)

-- ---- paths

-- each value is made of bytes
abbrev pub HaveBytes : List Attribute → Type 0
HaveBytes attributes = AllByRecursion (λ (attribute : Attribute). AreBytes attribute.value) attributes

first_by : (a : Attribute) (rest : Option Attribute) → AreBytes a.value → IfSome rest (λ found. AreBytes found.value) → (b : Bool) → IfSome (cond b (Some a) rest) (λ found. AreBytes found.value)
first_by a rest here others true = here
first_by a rest here others false = others

first_bytes : (kind : ℕ) (attributes : List Attribute) → HaveBytes attributes → IfSome (first_of kind attributes) (λ found. AreBytes found.value)
first_bytes kind [] have = tt
first_bytes kind (a ∷ rest) have = first_by a (first_of kind rest) have.0 (first_bytes kind rest have.1) (is_of kind a)

bytes_by : (test : ℕ → Bool) (found : Option Attribute) (value : List ℕ) → IfSome found (λ a. AreBytes a.value) → bytes_with test found ≡ Value value → AreBytes value
bytes_by test None value have e = absurd cc
bytes_by test (Some a) value have e = by (test a.flags) e
  where
    by : (b : Bool) → cond b (Value a.value) Malformed ≡ Value value → AreBytes value
    by true f = let same : a.value ≡ value = cc in rw (← same) have
    by false f = absurd cc

said_bytes : (test : ℕ → Bool) (kind : ℕ) (attributes : List Attribute) (value : List ℕ) → HaveBytes attributes → bytes_said test kind attributes ≡ Value value → AreBytes value
said_bytes test kind attributes value have e = bytes_by test (first_of kind attributes) value (first_bytes kind attributes have) e

path_is : (as4 : Bool) (attributes : List Attribute) → HaveBytes attributes → IfSome (value_of (path_said as4 attributes)) IsPath
unfolding path_said
path_is as4 attributes have = has_to IsPath (path_of as4) (bytes_said (fits WellKnown) 2 attributes) (λ value e. path_read as4 value (said_bytes (fits WellKnown) 2 attributes value have e))

as4_path_is : (as4 : Bool) (attributes : List Attribute) → HaveBytes attributes → IfSome (value_of (as4_path_said as4 attributes)) IsPath
unfolding as4_path_said
as4_path_is true attributes have = tt
as4_path_is false attributes have = may IsPath (path_of true) (bytes_said (fits OptionalTransitive) 17 attributes) (λ value e. path_read true value (said_bytes (fits OptionalTransitive) 17 attributes value have e))

with_as4_is : (ignored : Bool) (path : Said (List Segment)) (as4_path : Option (List Segment)) → IfSome (value_of path) IsPath → IfSome as4_path IsPath → IfSome (with_as4_path ignored path as4_path) IsPath
with_as4_is ignored Nothing as4_path is as4_is = tt
with_as4_is ignored Malformed as4_path is as4_is = tt
with_as4_is ignored (Value path) None is as4_is = is
with_as4_is true (Value path) (Some as4_path) is as4_is = is
with_as4_is false (Value path) (Some as4_path) is as4_is = joined_is path as4_path is as4_is

pub paths_read : (as4 : Bool) (attributes : List Attribute) → HaveBytes attributes → IfSome (paths_said as4 attributes).path IsPath
paths_read as4 attributes have = with_as4_is _ (path_said as4 attributes) (value_of (as4_path_said as4 attributes)) (path_is as4 attributes have) (as4_path_is as4 attributes have)

-- ---- lists of communities

list_by : {X : Type 0} (P : List X → Type 0) (b : Bool) (items : List X) → P items → IfSome (cond b None (Some items)) P
list_by P true items is = tt
list_by P false items is = is

or_none : {X : Type 0} (P : List X → Type 0) (found : Option (List X)) → P [] → IfSome found P → P (unwrap_or found [])
or_none P None none is = none
or_none P (Some items) none is = is

communities_are : (attributes : List Attribute) → IfSome (value_of (communities_said attributes)) (IsStrictlySortedBy nat_cmp)
unfolding communities_said
communities_are attributes =
    has_to (IsStrictlySortedBy nat_cmp) communities_of (bytes_said (fits OptionalTransitive) 8 attributes)
    (λ value e. list_by (IsStrictlySortedBy nat_cmp) (is_ragged 4 value) (ascending nat_cmp (numbers_in 4 value)) (ascending_sorted nat_cmp nat_cmp_total (numbers_in 4 value)))

larges_are : (attributes : List Attribute) → IfSome (value_of (large_said attributes)) (IsStrictlySortedBy large_cmp)
unfolding large_said
larges_are attributes =
    has_to (IsStrictlySortedBy large_cmp) larges_said_of (bytes_said (fits OptionalTransitive) 32 attributes)
    (λ value e. list_by (IsStrictlySortedBy large_cmp) (is_ragged 12 value) (ascending large_cmp (larges_of value)) (ascending_sorted large_cmp large_total (larges_of value)))

pub communities_read : (attributes : List Attribute) → IsStrictlySortedBy nat_cmp (lists_said attributes).communities
communities_read attributes = or_none (IsStrictlySortedBy nat_cmp) (value_of (communities_said attributes)) (none_sorted nat_cmp) (communities_are attributes)

pub larges_read : (attributes : List Attribute) → IsStrictlySortedBy large_cmp (lists_said attributes).large
larges_read attributes = or_none (IsStrictlySortedBy large_cmp) (value_of (large_said attributes)) (none_sorted large_cmp) (larges_are attributes)
