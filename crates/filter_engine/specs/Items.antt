-- What the items of a set do to a route (bgpd.conf(5), ATTRIBUTE SET).
use Rattle.std.specs.Prelude.{ℕ, ◌+◌, ◌-◌, min, Bool, not, bit_and, List, ◌∷◌, ◌++◌, length, filter, Some, unwrap_or, ◌==◌, nat_lt, if◌then◌else◌}
use Rattle.std.specs.List.{fold}
use Rattle.net_base.specs.Order.{same_family}
use Rattle.attr_model.specs.declared.attrs.Attrs.{Attrs}
use Rattle.attr_model.specs.Path.{prepended}
use Rattle.conf_tree.specs.declared.rule.Change.{Change}
use Rattle.conf_tree.specs.declared.rule.Change.TheVariants as change
use Rattle.conf_tree.specs.declared.rule.RouteOrigin.{RouteOrigin}
use Rattle.conf_tree.specs.declared.rule.RouteOrigin.TheVariants as origin
use Rattle.conf_tree.specs.declared.rule.NextHop.{NextHop}
use Rattle.conf_tree.specs.declared.rule.NextHop.TheVariants as next
use Rattle.conf_tree.specs.declared.rule.CommunityPattern.{CommunityPattern}
use Rattle.conf_tree.specs.declared.rule.LargePattern.{LargePattern}
use Rattle.conf_tree.specs.declared.rule.Item.{Item}
use Rattle.conf_tree.specs.declared.rule.Item.TheVariants as sets
use Rattle.filter_engine.specs.declared.context.Context.{Context}
use Rattle.filter_engine.specs.declared.verdict.Hop.{Hop}
use Rattle.filter_engine.specs.declared.verdict.Hop.TheVariants.{SelfHop, NoModify, Given}
use Rattle.filter_engine.specs.Conditions.{community_agrees, large_agrees}

-- ---- numbers

-- sums stop at the greatest number, and differences at 0
abbrev pub changed_number : Change → ℕ → ℕ
changed_number (change.Set number) current = number
changed_number (change.Add number) current = min 4294967295 (current + number)
changed_number (change.Subtract number) current = current - number

-- an absent LOCAL_PREF counts 100
abbrev pub with_localpref : Change → Attrs → Attrs
with_localpref by attrs = record attrs { local_pref = Some (changed_number by (unwrap_or attrs.local_pref 100)) }

-- an absent MULTI_EXIT_DISC counts 0
abbrev pub with_med : Change → Attrs → Attrs
with_med by attrs = record attrs { med = Some (changed_number by (unwrap_or attrs.med 0)) }

abbrev pub with_weight : Change → Attrs → Attrs
with_weight by attrs = record attrs { weight = changed_number by attrs.weight }

abbrev pub with_prepends : ℕ → ℕ → Attrs → Attrs
with_prepends asn times attrs = record attrs { path = prepended asn times attrs.path }

-- RFC 4271 section 4.3: IGP, EGP, INCOMPLETE
abbrev pub origin_code : RouteOrigin → ℕ
origin_code origin.Igp = 0
origin_code origin.Egp = 1
origin_code origin.Incomplete = 2

abbrev pub with_origin : RouteOrigin → Attrs → Attrs
with_origin code attrs = record attrs { origin = origin_code code }

-- ---- communities

-- a community in its place among ascending ones: those below it, itself, those above it
abbrev pub placed : ℕ → List ℕ → List ℕ
placed community list = filter (λ other. nat_lt other community) list ++ (community ∷ filter (λ other. nat_lt community other) list)

abbrev pub with_community : ℕ → Attrs → Attrs
with_community community attrs = record attrs { communities = placed community attrs.communities }

-- a partial bit goes with the last community of its kind
abbrev pub partial_without : ℕ → ℕ → ℕ → ℕ
partial_without others count bits = if count == 0 then bit_and bits others else bits

abbrev pub without_communities : CommunityPattern → Attrs → Attrs
without_communities pattern attrs =
    let left = filter (λ community. not (community_agrees pattern community)) attrs.communities in
    record attrs { communities = left; «partial» = partial_without 5 (length left) attrs.partial }

-- the order of large communities
abbrev pub large_below : ℕ × ℕ × ℕ → ℕ × ℕ × ℕ → Bool
large_below one other =
    if one.0 == other.0 then (if one.1 == other.1 then nat_lt one.2 other.2 else nat_lt one.1 other.1) else nat_lt one.0 other.0

abbrev pub large_placed : ℕ × ℕ × ℕ → List (ℕ × ℕ × ℕ) → List (ℕ × ℕ × ℕ)
large_placed community list = filter (λ other. large_below other community) list ++ (community ∷ filter (λ other. large_below community other) list)

abbrev pub with_large : ℕ × ℕ × ℕ → Attrs → Attrs
with_large community attrs = record attrs { large = large_placed community attrs.large }

abbrev pub without_large : LargePattern → Attrs → Attrs
without_large pattern attrs =
    let left = filter (λ community. not (large_agrees pattern community)) attrs.large in
    record attrs { large = left; «partial» = partial_without 3 (length left) attrs.partial }

-- ---- items

-- what an item makes of the attributes
abbrev pub with_item : Context → Attrs → Item → Attrs
with_item context attrs (sets.LocalPref by) = with_localpref by attrs
with_item context attrs (sets.Med by) = with_med by attrs
with_item context attrs (sets.Weight by) = with_weight by attrs
with_item context attrs (sets.PrependSelf times) = with_prepends context.own_as times attrs
with_item context attrs (sets.PrependNeighbor times) = with_prepends context.peer_as times attrs
with_item context attrs (sets.Origin code) = with_origin code attrs
with_item context attrs (sets.Community community) = with_community community attrs
with_item context attrs (sets.DeleteCommunity pattern) = without_communities pattern attrs
with_item context attrs (sets.LargeCommunity global first second) = with_large (global, first, second) attrs
with_item context attrs (sets.DeleteLargeCommunity pattern) = without_large pattern attrs
with_item context attrs (sets.NextHop hop) = attrs

-- an address of another family than the prefix changes nothing
abbrev pub chosen_hop : Context → Hop → NextHop → Hop
chosen_hop context hop (next.Address address) = if same_family address.family context.prefix.family then Given address else hop
chosen_hop context hop next.Own = SelfHop
chosen_hop context hop next.NoModify = NoModify

-- what an item makes of the choice of the next hop
abbrev pub hop_with_item : Context → Hop → Item → Hop
hop_with_item context hop (sets.NextHop choice) = chosen_hop context hop choice
hop_with_item context hop item = hop

-- the items go one after the other
abbrev pub with_items : Context → Attrs → List Item → Attrs
with_items context attrs items = fold (with_item context) attrs items

abbrev pub hop_with_items : Context → Hop → List Item → Hop
hop_with_items context hop items = fold (hop_with_item context) hop items
