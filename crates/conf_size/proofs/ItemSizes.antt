-- A set of items has at most 920 bytes.
use Rattle.std.proofs.Common.{ℕ, ◌*◌, ◌/◌, ◌%◌, ◌≤◌, List, [], ◌∷◌, ◌++◌, length, flat_map, codes, decimal, Option, None, Some, arith, length-append}
use Rattle.std.specs.List.{join_by}
use Rattle.conf_tree.specs.declared.rule.Change.{Change}
use Rattle.conf_tree.specs.declared.rule.Change.TheVariants.{Set, Add, Subtract}
use Rattle.conf_tree.specs.declared.rule.CommunityPattern.{CommunityPattern}
use Rattle.conf_tree.specs.declared.rule.LargePattern.{LargePattern}
use Rattle.conf_tree.specs.declared.rule.RouteOrigin.{RouteOrigin}
use Rattle.conf_tree.specs.declared.rule.RouteOrigin.TheVariants.{Igp, Egp, Incomplete}
use Rattle.conf_tree.specs.declared.rule.NextHop.{NextHop}
use Rattle.conf_tree.specs.declared.rule.NextHop.TheVariants as hops
use Rattle.conf_tree.specs.declared.rule.Item.{Item}
use Rattle.conf_tree.specs.declared.rule.Item.TheVariants as items
use Rattle.conf_tree.specs.declared.draft.SetPlace.{SetPlace}
use Rattle.conf_tree.specs.Canonical.{change_text, part_text, pattern_text, large_pattern_text, community_text, large_text, origin_word, hop_text, item_text, set_text, set_behind, set_option}
use Rattle.conf_tree.specs.Readable.{Each, IsWithin, IsChange, IsPart, IsPattern, IsLargePattern, IsItem, IsSet}
use Rattle.conf_size.proofs.ListSizes.{each_size}
use Rattle.conf_size.proofs.AddressSizes.{three_digits, five_digits, ten_digits, addr_size}
use Rattle.conf_size.proofs.EntrySizes.{number_digits}

change_size : (change : Change) → IsChange change → length (change_text change) ≤ 11
change_size (Set n) good = omega (arith, number_digits 0 n good)
change_size (Add n) good = omega (arith, number_digits 0 n good)
change_size (Subtract n) good = omega (arith, number_digits 0 n good)

-- ---- communities

half_size : (part : Option ℕ) → IsPart 65535 part → length (part_text part) ≤ 5
half_size None good = omega arith
half_size (Some n) good = five_digits n good.most

part_size : (part : Option ℕ) → IsPart 4294967295 part → length (part_text part) ≤ 10
part_size None good = omega arith
part_size (Some n) good = ten_digits n good.most

pub pattern_size : (p : CommunityPattern) → IsPattern p → length (pattern_text p) ≤ 11
unfolding pattern_text
pattern_size p good = omega (arith, half_size p.high good.0, half_size p.low good.1, length-append {A = ℕ})

pub large_pattern_size : (p : LargePattern) → IsLargePattern p → length (large_pattern_text p) ≤ 32
unfolding large_pattern_text
large_pattern_size p good = omega (arith, part_size p.global good.0, part_size p.first good.1, part_size p.second good.2, length-append {A = ℕ})

community_size : (n : ℕ) → IsWithin 0 4294967295 n → length (community_text n) ≤ 11
unfolding community_text
community_size n good =
    omega (arith, five_digits (n / 65536) (omega (arith, good.most)), five_digits (n % 65536) (omega arith), length-append {A = ℕ})

large_size : (global first second : ℕ) → IsWithin 0 4294967295 global → IsWithin 0 4294967295 first → IsWithin 0 4294967295 second → length (large_text global first second) ≤ 32
large_size global first second a b c = omega (arith, number_digits 0 global a, number_digits 0 first b, number_digits 0 second c, length-append {A = ℕ})

-- ---- items

origin_size : (origin : RouteOrigin) → length (origin_word origin) ≤ 10
origin_size Igp = omega arith
origin_size Egp = omega arith
origin_size Incomplete = omega arith

hop_size : (hop : NextHop) → length (hop_text hop) ≤ 39
hop_size (hops.Address address) = addr_size address
hop_size hops.Own = omega arith
hop_size hops.NoModify = omega arith

times_size : (times : ℕ) → IsWithin 1 128 times → length (decimal times) ≤ 3
times_size times good = three_digits times (omega (arith, good.most))

item_size : (place : SetPlace) (item : Item) → IsItem place item → length (item_text item) ≤ 55
unfolding item_text
item_size place (items.LocalPref change) good = omega (arith, change_size change good)
item_size place (items.Med change) good = omega (arith, change_size change good)
item_size place (items.Weight change) good = omega (arith, change_size change good)
item_size place (items.PrependSelf times) good = omega (arith, times_size times good)
item_size place (items.PrependNeighbor times) good = omega (arith, times_size times good.0)
item_size place (items.Origin origin) good = omega (arith, origin_size origin)
item_size place (items.Community community) good = omega (arith, community_size community good)
item_size place (items.DeleteCommunity pattern) good = omega (arith, pattern_size pattern good)
item_size place (items.LargeCommunity global first second) good = omega (arith, large_size global first second good.0 good.1 good.2)
item_size place (items.DeleteLargeCommunity pattern) good = omega (arith, large_pattern_size pattern good)
item_size place (items.NextHop hop) good = omega (arith, hop_size hop)

-- ---- sets

-- with a comma and a blank for each item but one
items_size : (place : SetPlace) (set : List Item) → Each (IsItem place) set → length (join_by item_text (codes ", ") set) ≤ 57 * length set
items_size place [] each = omega arith
items_size place (item ∷ set) each =
    let behind : Item → List ℕ = λ i. codes ", " ++ item_text i in
    omega (arith, item_size place item each.0, each_size behind (IsItem place) 57 set (λ i good. omega (arith, item_size place i good)) each.1, length-append (item_text item) (flat_map behind set))

set_size : (place : SetPlace) (set : List Item) → IsSet place set → length (set_text set) ≤ 920
unfolding set_text
set_size place set good = omega (arith, items_size place set good.0, good.1, length-append {A = ℕ})

pub set_behind_size : (place : SetPlace) (set : List Item) → IsSet place set → length (set_behind set) ≤ 921
set_behind_size place [] good = omega arith
set_behind_size place (item ∷ set) good = omega (arith, set_size place (item ∷ set) good)

pub set_option_size : (place : SetPlace) (set : List Item) → IsSet place set → length (set_option set) ≤ 922
set_option_size place [] good = omega arith
set_option_size place (item ∷ set) good = omega (arith, set_size place (item ∷ set) good, length-append {A = ℕ})
