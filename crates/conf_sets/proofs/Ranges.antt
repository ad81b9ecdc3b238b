-- The entries of prefix-sets: what they cover, and the order in which they are sorted.
use Rattle.std.proofs.Common.{◌≡◌, ℕ, true, false, List, map, sym, ap, ◌∙◌, rules}
use Rattle.std.specs.List.{All}
use Rattle.std.specs.Ordering.{is_lt, nat_cmp, ordering_then}
use Rattle.std.specs.List.Sorted.{IsSorted}
use Rattle.std.proofs.lemmas.Bool.{and_parts}
use Rattle.net_base.specs.declared.addr.Family.{Family}
use Rattle.net_base.specs.declared.prefix.Prefix.{Prefix}
use Rattle.net_base.specs.Order.{same_family, prefix_cmp}
use Rattle.net_base.proofs.Covering.{same_family_Decides}
use Rattle.conf_tree.specs.declared.sets.PrefixRange.{PrefixRange}
use Rattle.conf_tree.specs.contracts.sets.PrefixRangeOrd.TheImpl.{cmp-value as derived_range}
use Rattle.conf_tree.specs.Membership.{holds}
use Rattle.lane_scan.specs.Slots.{covers_slot}
use Rattle.roa_check.specs.Index.{comes_before, IsAscending}
use Rattle.roa_check.specs.Table.{slot_of}
use Rattle.roa_check.proofs.Placing.{covers_slots, covers_family, prefixes_before, then_not_less, ascending}
use Rattle.conf_sets.specs.Tables.{range_slot, is_of_family}

pub range_covers : (prefix : Prefix) (range : PrefixRange) → holds prefix range ≡ true → covers_slot (range_slot range) (slot_of prefix) ≡ true
range_covers prefix range e = covers_slots range.prefix prefix (and_parts _ _ (and_parts _ _ e).0).0

pub range_family : (prefix : Prefix) (range : PrefixRange) → holds prefix range ≡ true → same_family range.prefix.family prefix.family ≡ true
range_family prefix range e = covers_family range.prefix prefix (and_parts _ _ (and_parts _ _ e).0).0

pub family_all : (family : Family) (ranges : List PrefixRange) → All (λ range. is_of_family family range ≡ true) ranges → All (λ range. range.prefix.family ≡ family) ranges
family_all family ranges all = λ k d within. (same_family_Decides _ family).0 (all k d within)

range_parts : (a b : PrefixRange) → derived_range.it a b ≡ ordering_then (prefix_cmp a.prefix b.prefix) (ordering_then (nat_cmp a.low b.low) (nat_cmp a.high b.high))
range_parts a b = search rules

ranges_before : (x y : PrefixRange) → x.prefix.family ≡ y.prefix.family → is_lt (derived_range.it y x) ≡ false → comes_before (range_slot x) (range_slot y) ≡ true
ranges_before x y family e = prefixes_before x.prefix y.prefix family (then_not_less _ _ (sym (ap is_lt (range_parts y x)) ∙ e)).0

pub ranges_ascending : (family : Family) (ranges : List PrefixRange) → All (λ range. range.prefix.family ≡ family) ranges → IsSorted derived_range.it ranges → IsAscending (map range_slot ranges)
ranges_ascending family ranges all sorted =
    ascending range_slot (λ x y. is_lt (derived_range.it x y)) (λ range. range.prefix.family ≡ family) (λ x y p q e. ranges_before x y (p ∙ sym q) e) ranges all sorted
