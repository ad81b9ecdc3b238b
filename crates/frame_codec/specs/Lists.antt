-- Lists of attributes that could have been sent.
use Rattle.std.specs.Prelude.{◌≡◌, ℕ, nat_le, ◌&&◌, not, Bool, false, List, map}
use Rattle.std.specs.List.{AllByRecursion}
use Rattle.std.specs.List.Sorted.{IsStrictlySortedBy}
use Rattle.std.specs.Ordering.{nat_cmp}
use Rattle.attr_model.specs.Valid.{is_known, large_cmp}
use Rattle.attr_model.specs.declared.attrs.Attrs.{Attrs}

-- Each of these types is unknown, and below those behind it.
pub record AreUnknown (unknown : List (ℕ × List ℕ)) : Type 0 where
  pub ascending : IsStrictlySortedBy nat_cmp (map (λ (attribute : ℕ × List ℕ). attribute.0) unknown)
  pub unknown_types : AllByRecursion (λ (attribute : ℕ × List ℕ). is_known attribute.0 ≡ false) unknown

-- A type may stand where `least` is one more than the type in front.
abbrev pub may_follow : ℕ → ℕ → Bool
may_follow least kind = nat_le least kind && not (is_known kind)

-- Each community is below those behind it, and each unknown type too.
pub record AreLists (attrs : Attrs) : Type 0 where
  pub communities : IsStrictlySortedBy nat_cmp attrs.communities
  pub large : IsStrictlySortedBy large_cmp attrs.large
  pub unknown : AreUnknown attrs.unknown
