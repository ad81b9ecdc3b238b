-- Attributes that may stand beside a route (RFC 4271 sections 4.3 and 5, RFC 1997, RFC 8092).
use Rattle.std.specs.Prelude.{◌≡◌, ◌≢◌, ℕ, ◌<◌, ◌≤◌, Bool, false, List, [], ◌∷◌, length, map, IsSome, IsBitSet, ◌==◌}
use Rattle.std.specs.List.{AllByRecursion, list_any}
use Rattle.std.specs.List.Sorted.{IsStrictlySortedBy}
use Rattle.std.specs.declared.cmp.Ordering.{Ordering}
use Rattle.std.specs.Ordering.{nat_cmp, ordering_then}
use Rattle.attr_model.specs.declared.path.Segment.{Segment}
use Rattle.attr_model.specs.declared.path.Segment.TheVariants.{Set, Sequence}
use Rattle.attr_model.specs.declared.attrs.Attrs.{Attrs}

-- what a segment lists
abbrev pub numbers_of : Segment → List ℕ
numbers_of (Set numbers) = numbers
numbers_of (Sequence numbers) = numbers

-- A segment lists 1 to 255 numbers.
pub record IsSegment (segment : Segment) : Type 0 where
  pub some : 1 ≤ length (numbers_of segment)
  pub counted : length (numbers_of segment) ≤ 255

abbrev pub IsPath : List Segment → Type 0
IsPath path = AllByRecursion IsSegment path

-- The types of attributes that have a meaning here. All others are unknown.
abbrev pub known_types : List ℕ
known_types = 1 ∷ 2 ∷ 3 ∷ 4 ∷ 5 ∷ 6 ∷ 7 ∷ 8 ∷ 14 ∷ 15 ∷ 17 ∷ 18 ∷ 32 ∷ []

abbrev pub is_known : ℕ → Bool
is_known kind = list_any (λ known. known == kind) known_types

-- large communities by their three numbers
abbrev pub large_cmp : ℕ × ℕ × ℕ → ℕ × ℕ × ℕ → Ordering
large_cmp x y = ordering_then (ordering_then (nat_cmp x.0 y.0) (nat_cmp x.1 y.1)) (nat_cmp x.2 y.2)

-- A partial bit stands only where its attribute is there.
pub record IsPartial (attrs : Attrs) : Type 0 where
  pub below : attrs.partial < 8
  pub aggregator : IsBitSet attrs.partial 0 → IsSome attrs.aggregator
  pub communities : IsBitSet attrs.partial 1 → attrs.communities ≢ []
  pub large : IsBitSet attrs.partial 2 → attrs.large ≢ []

-- Attributes are valid where they could have been sent.
pub record IsValid (attrs : Attrs) : Type 0 where
  pub origin : attrs.origin ≤ 2
  pub path : IsPath attrs.path
  pub communities : IsStrictlySortedBy nat_cmp attrs.communities
  pub large : IsStrictlySortedBy large_cmp attrs.large
  pub unknown : IsStrictlySortedBy nat_cmp (map (λ (attribute : ℕ × List ℕ). attribute.0) attrs.unknown)
  pub unknown_types : AllByRecursion (λ (attribute : ℕ × List ℕ). is_known attribute.0 ≡ false) attrs.unknown
  pub «partial» : IsPartial attrs
