-- Each number of attributes has its width.
use Rattle.std.specs.Prelude.{ℕ, ◌<◌, ◌^◌, List, IfSome}
use Rattle.std.specs.List.{AllByRecursion}
use Rattle.attr_model.specs.declared.attrs.Attrs.{Attrs}
use Rattle.attr_model.specs.declared.path.Segment.{Segment}
use Rattle.attr_model.specs.Valid.{numbers_of}

abbrev pub IsNumber : ℕ → Type 0
IsNumber n = n < 2 ^ 32

abbrev pub AreNumbers : List ℕ → Type 0
AreNumbers numbers = AllByRecursion IsNumber numbers

abbrev pub AreSegments : List Segment → Type 0
AreSegments path = AllByRecursion (λ segment. AreNumbers (numbers_of segment)) path

abbrev pub IsAggregator : ℕ × ℕ → Type 0
IsAggregator aggregator = IsNumber aggregator.0 × IsNumber aggregator.1

abbrev pub IsLarge : ℕ × ℕ × ℕ → Type 0
IsLarge large = (IsNumber large.0 × IsNumber large.1) × IsNumber large.2

abbrev pub IsUnknown : ℕ × List ℕ → Type 0
IsUnknown attribute = attribute.0 < 256

pub record HaveWidth (attrs : Attrs) : Type 0 where
  pub path : AreSegments attrs.path
  pub med : IfSome attrs.med IsNumber
  pub local_pref : IfSome attrs.local_pref IsNumber
  pub aggregator : IfSome attrs.aggregator IsAggregator
  pub communities : AreNumbers attrs.communities
  pub large : AllByRecursion IsLarge attrs.large
  pub unknown : AllByRecursion IsUnknown attrs.unknown
