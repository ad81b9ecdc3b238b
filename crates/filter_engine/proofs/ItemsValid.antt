-- Valid attributes stay valid where the items of a set change them.
use Rattle.std.proofs.Common.{ℕ, ◌≤◌, List, [], ◌∷◌, Option, Some, arith}
use Rattle.std.specs.Prelude.{filter, length, not, unwrap_or}
use Rattle.std.specs.List.Sorted.{IsStrictlySortedBy}
use Rattle.std.specs.Ordering.{nat_cmp}
use Rattle.std.proofs.lemmas.List.Kept.{IsStrictlySortedBy-filter}
use Rattle.attr_model.specs.declared.attrs.Attrs.{Attrs}
use Rattle.attr_model.specs.declared.path.Segment.{Segment}
use Rattle.attr_model.specs.Path.{prepended}
use Rattle.attr_model.specs.Valid.{IsPartial, IsPath, IsValid, large_cmp}
use Rattle.attr_model.proofs.PrependedValid.{prepended_valid}
use Rattle.conf_tree.specs.declared.rule.CommunityPattern.{CommunityPattern}
use Rattle.conf_tree.specs.declared.rule.Item.{Item}
use Rattle.conf_tree.specs.declared.rule.Item.TheVariants as sets
use Rattle.conf_tree.specs.declared.rule.LargePattern.{LargePattern}
use Rattle.conf_tree.specs.declared.rule.RouteOrigin.{RouteOrigin}
use Rattle.conf_tree.specs.declared.rule.RouteOrigin.TheVariants as origin
use Rattle.filter_engine.specs.declared.context.Context.{Context}
use Rattle.filter_engine.specs.Conditions.{community_agrees, large_agrees}
use Rattle.filter_engine.specs.Items.{changed_number, large_placed, origin_code, partial_without, placed, with_community, with_item, with_items, with_large, with_origin, with_prepends, without_communities, without_large}
use Rattle.filter_engine.proofs.PartialBits.{with_one, with_one_large, without_some, without_some_large}
use Rattle.filter_engine.proofs.Placed.{large_placed_sorted, placed_sorted}

-- another origin or path, and other numbers
others : (attrs : Attrs) (origin : ℕ) (path : List Segment) (med local_pref : Option ℕ) (weight : ℕ) → origin ≤ 2 → IsPath path → IsValid attrs
    → IsValid (record attrs { origin = origin; path = path; med = med; local_pref = local_pref; weight = weight })
others attrs origin path med local_pref weight low good valid = record {
  origin = low;
  path = good;
  communities = valid.communities;
  large = valid.large;
  unknown = valid.unknown;
  unknown_types = valid.unknown_types;
  «partial» = record { below = valid.partial.below; aggregator = valid.partial.aggregator; communities = valid.partial.communities; large = valid.partial.large };
}

-- other communities
listed : (attrs : Attrs) (list : List ℕ) (bits : ℕ) → IsStrictlySortedBy nat_cmp list → IsPartial (record attrs { communities = list; «partial» = bits }) → IsValid attrs
    → IsValid (record attrs { communities = list; «partial» = bits })
listed attrs list bits sorted good valid = record {
  origin = valid.origin;
  path = valid.path;
  communities = sorted;
  large = valid.large;
  unknown = valid.unknown;
  unknown_types = valid.unknown_types;
  «partial» = good;
}

-- other large communities
large_listed : (attrs : Attrs) (list : List (ℕ × ℕ × ℕ)) (bits : ℕ) → IsStrictlySortedBy large_cmp list → IsPartial (record attrs { large = list; «partial» = bits }) → IsValid attrs
    → IsValid (record attrs { large = list; «partial» = bits })
large_listed attrs list bits sorted good valid = record {
  origin = valid.origin;
  path = valid.path;
  communities = valid.communities;
  large = sorted;
  unknown = valid.unknown;
  unknown_types = valid.unknown_types;
  «partial» = good;
}

-- ---- items

code_low : (code : RouteOrigin) → origin_code code ≤ 2
code_low origin.Igp = omega arith
code_low origin.Egp = omega arith
code_low origin.Incomplete = omega arith

pub prepends_valid : (asn times : ℕ) (attrs : Attrs) → IsValid attrs → IsValid (with_prepends asn times attrs)
prepends_valid asn times attrs valid = others attrs attrs.origin (prepended asn times attrs.path) attrs.med attrs.local_pref attrs.weight valid.origin (prepended_valid asn times attrs.path valid.path) valid

origin_valid : (code : RouteOrigin) (attrs : Attrs) → IsValid attrs → IsValid (with_origin code attrs)
origin_valid code attrs valid = others attrs (origin_code code) attrs.path attrs.med attrs.local_pref attrs.weight (code_low code) valid.path valid

community_valid : (community : ℕ) (attrs : Attrs) → IsValid attrs → IsValid (with_community community attrs)
community_valid community attrs valid =
    listed attrs (placed community attrs.communities) attrs.partial (placed_sorted community attrs.communities valid.communities) (with_one attrs _ community _ valid.partial) valid

without_communities_valid : (pattern : CommunityPattern) (attrs : Attrs) → IsValid attrs → IsValid (without_communities pattern attrs)
without_communities_valid pattern attrs valid =
    let stays = λ (community : ℕ). not (community_agrees pattern community) in
    let left = filter stays attrs.communities in
    listed attrs left (partial_without 5 (length left) attrs.partial) (IsStrictlySortedBy-filter nat_cmp stays attrs.communities valid.communities) (without_some attrs left valid.partial) valid

large_valid : (community : ℕ × ℕ × ℕ) (attrs : Attrs) → IsValid attrs → IsValid (with_large community attrs)
large_valid community attrs valid =
    large_listed attrs (large_placed community attrs.large) attrs.partial (large_placed_sorted community attrs.large valid.large) (with_one_large attrs _ community _ valid.partial) valid

without_large_valid : (pattern : LargePattern) (attrs : Attrs) → IsValid attrs → IsValid (without_large pattern attrs)
without_large_valid pattern attrs valid =
    let stays = λ (community : ℕ × ℕ × ℕ). not (large_agrees pattern community) in
    let left = filter stays attrs.large in
    large_listed attrs left (partial_without 3 (length left) attrs.partial) (IsStrictlySortedBy-filter large_cmp stays attrs.large valid.large) (without_some_large attrs left valid.partial) valid

pub item_valid : (context : Context) (attrs : Attrs) (item : Item) → IsValid attrs → IsValid (with_item context attrs item)
item_valid context attrs (sets.LocalPref by) valid = others attrs attrs.origin attrs.path attrs.med (Some (changed_number by (unwrap_or attrs.local_pref 100))) attrs.weight valid.origin valid.path valid
item_valid context attrs (sets.Med by) valid = others attrs attrs.origin attrs.path (Some (changed_number by (unwrap_or attrs.med 0))) attrs.local_pref attrs.weight valid.origin valid.path valid
item_valid context attrs (sets.Weight by) valid = others attrs attrs.origin attrs.path attrs.med attrs.local_pref (changed_number by attrs.weight) valid.origin valid.path valid
item_valid context attrs (sets.PrependSelf times) valid = prepends_valid context.own_as times attrs valid
item_valid context attrs (sets.PrependNeighbor times) valid = prepends_valid context.peer_as times attrs valid
item_valid context attrs (sets.Origin code) valid = origin_valid code attrs valid
item_valid context attrs (sets.Community community) valid = community_valid community attrs valid
item_valid context attrs (sets.DeleteCommunity pattern) valid = without_communities_valid pattern attrs valid
item_valid context attrs (sets.LargeCommunity global first second) valid = large_valid (global, first, second) attrs valid
item_valid context attrs (sets.DeleteLargeCommunity pattern) valid = without_large_valid pattern attrs valid
item_valid context attrs (sets.NextHop hop) valid = valid

pub items_valid : (context : Context) (attrs : Attrs) (items : List Item) → IsValid attrs → IsValid (with_items context attrs items)
items_valid context attrs [] valid = valid
items_valid context attrs (item ∷ items) valid = items_valid context (with_item context attrs item) items (item_valid context attrs item valid)
