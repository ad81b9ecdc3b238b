-- The items of a `set`.
use Rattle.std.specs.Prelude.{ℕ, Bool, true, false, ◌&&◌, ◌||◌, not, List, [], ◌∷◌, Option, option_map, Ok, if◌then◌else◌, ◌==◌, codes}
use Rattle.net_base.specs.declared.conf.ConfKind.TheVariants.{NotInProfile}
use Rattle.net_base.specs.declared.conf.Counted.TheVariants as counted
use Rattle.net_base.specs.Number.{is_number}
use Rattle.conf_tree.specs.declared.token.Token.{Token}
use Rattle.conf_tree.specs.declared.rule.Item.{Item}
use Rattle.conf_tree.specs.declared.rule.Item.TheVariants as items
use Rattle.conf_tree.specs.declared.rule.Change.{Change}
use Rattle.conf_tree.specs.declared.rule.Change.TheVariants as changes
use Rattle.conf_tree.specs.declared.rule.NextHop.TheVariants as hops
use Rattle.conf_tree.specs.declared.rule.RouteOrigin.TheVariants as origins
use Rattle.conf_tree.specs.declared.draft.SetPlace.{SetPlace}
use Rattle.conf_tree.specs.declared.draft.SetPlace.TheVariants as places
use Rattle.conf_tree.specs.Faults.{◌>>=◌}
use Rattle.conf_tree.specs.Reading.{Reading, Member, fails, unexpected, behind, word_is, word_in, unless_full, one_or_list_at}
use Rattle.conf_tree.specs.Values.{number_at, in_range, within, word_passes, word_text, address_at, community_at, large_community_at, one_community, number_or_zero}

-- ---- one kind of item after another, behind its word

-- a byte, and a number behind it
abbrev pub is_signed : ℕ → List ℕ → Bool
is_signed sign [] = false
is_signed sign (b ∷ text) = (b == sign) && is_number text

abbrev pub unsigned : List ℕ → List ℕ
unsigned [] = []
unsigned (b ∷ text) = text

-- the value of a change, if its field can hold it
abbrev pub changed_by : (ℕ → Change) → List ℕ → Option Change
changed_by make text = option_map make (within 0 4294967295 text)

-- `+N`, `-N` or `N`
unfoldable pub change_at : List Token → Reading Change
change_at tokens =
    if word_passes (is_signed 43) tokens then in_range tokens (changed_by changes.Add (unsigned (word_text tokens)))
    else (if word_passes (is_signed 45) tokens then in_range tokens (changed_by changes.Subtract (unsigned (word_text tokens)))
    else (if word_passes is_number tokens then in_range tokens (changed_by changes.Set (word_text tokens))
    else unexpected tokens))

unfoldable pub local_pref_at : List Token → Reading Item
local_pref_at tokens = do
  change ← change_at tokens
  Ok (items.LocalPref change.0, change.1)

unfoldable pub med_at : List Token → Reading Item
med_at tokens = do
  change ← change_at tokens
  Ok (items.Med change.0, change.1)

unfoldable pub weight_at : List Token → Reading Item
weight_at tokens = do
  change ← change_at tokens
  Ok (items.Weight change.0, change.1)

unfoldable pub prepend_self_at : List Token → Reading Item
prepend_self_at tokens = do
  times ← number_at 1 128 tokens
  Ok (items.PrependSelf times.0, times.1)

unfoldable pub prepend_neighbor_at : List Token → Reading Item
prepend_neighbor_at tokens = do
  times ← number_at 1 128 tokens
  Ok (items.PrependNeighbor times.0, times.1)

unfoldable pub origin_at : List Token → Reading Item
origin_at tokens =
    if word_is (codes "igp") tokens then Ok (items.Origin origins.Igp, behind tokens)
    else (if word_is (codes "egp") tokens then Ok (items.Origin origins.Egp, behind tokens)
    else (if word_is (codes "incomplete") tokens then Ok (items.Origin origins.Incomplete, behind tokens)
    else unexpected tokens))

unfoldable pub deleted_community_at : List Token → Reading Item
deleted_community_at tokens = do
  pattern ← community_at true tokens
  Ok (items.DeleteCommunity pattern.0, pattern.1)

unfoldable pub added_community_at : List Token → Reading Item
added_community_at tokens = do
  pattern ← community_at false tokens
  Ok (items.Community (one_community pattern.0), pattern.1)

unfoldable pub community_item_at : List Token → Reading Item
community_item_at tokens = if word_is (codes "delete") tokens then deleted_community_at (behind tokens) else added_community_at tokens

unfoldable pub deleted_large_at : List Token → Reading Item
deleted_large_at tokens = do
  pattern ← large_community_at true tokens
  Ok (items.DeleteLargeCommunity pattern.0, pattern.1)

unfoldable pub added_large_at : List Token → Reading Item
added_large_at tokens = do
  pattern ← large_community_at false tokens
  Ok (items.LargeCommunity (number_or_zero pattern.0.global) (number_or_zero pattern.0.first) (number_or_zero pattern.0.second), pattern.1)

unfoldable pub large_item_at : List Token → Reading Item
large_item_at tokens = if word_is (codes "delete") tokens then deleted_large_at (behind tokens) else added_large_at tokens

-- `self` and `no-modify` are for routes that are sent
abbrev pub is_to : SetPlace → Bool
is_to places.ToRule = true
is_to places.FromRule = false
is_to places.Neighbour = false
is_to places.Network = false

abbrev pub is_network : SetPlace → Bool
is_network places.ToRule = false
is_network places.FromRule = false
is_network places.Neighbour = false
is_network places.Network = true

-- words behind `nexthop` that a place leaves out
abbrev pub is_refused_hop : SetPlace → List Token → Bool
is_refused_hop place tokens =
    word_in (codes "blackhole" ∷ codes "reject" ∷ []) tokens || (not (is_to place) && word_in (codes "self" ∷ codes "no-modify" ∷ []) tokens)

unfoldable pub hop_address_at : List Token → Reading Item
hop_address_at tokens = do
  address ← address_at tokens
  Ok (items.NextHop (hops.Address address.0), address.1)

unfoldable pub next_hop_item_at : SetPlace → List Token → Reading Item
next_hop_item_at place tokens =
    if is_refused_hop place tokens then fails NotInProfile tokens
    else (if word_is (codes "self") tokens then Ok (items.NextHop hops.Own, behind tokens)
    else (if word_is (codes "no-modify") tokens then Ok (items.NextHop hops.NoModify, behind tokens)
    else hop_address_at tokens))

-- ---- an item by its word

-- words of conditions and items that this language leaves out
abbrev pub left_out_of_rules : List (List ℕ)
left_out_of_rules =
    codes "ext-community" ∷ codes "max-as-seq" ∷ codes "max-communities" ∷ codes "avs" ∷ codes "pftable" ∷ codes "rtlabel" ∷ codes "expires" ∷ []

abbrev pub item_words : List (List ℕ)
item_words =
    codes "localpref" ∷ codes "med" ∷ codes "metric" ∷ codes "weight" ∷ codes "prepend-self" ∷ codes "prepend-neighbor"
    ∷ codes "origin" ∷ codes "community" ∷ codes "large-community" ∷ codes "nexthop" ∷ []

-- items that name communities or a next hop
unfoldable pub naming_item_at : SetPlace → List Token → Reading Item
naming_item_at place tokens =
    if word_is (codes "community") tokens then community_item_at (behind tokens)
    else (if word_is (codes "large-community") tokens then large_item_at (behind tokens)
    else next_hop_item_at place (behind tokens))

-- items that change the path or the origin, and those that name something
unfoldable pub route_item_at : SetPlace → List Token → Reading Item
route_item_at place tokens =
    if word_is (codes "prepend-self") tokens then prepend_self_at (behind tokens)
    else (if word_is (codes "prepend-neighbor") tokens then prepend_neighbor_at (behind tokens)
    else (if word_is (codes "origin") tokens then origin_at (behind tokens)
    else naming_item_at place tokens))

-- items that change a number, and the others
unfoldable pub known_item_at : SetPlace → List Token → Reading Item
known_item_at place tokens =
    if word_is (codes "localpref") tokens then local_pref_at (behind tokens)
    else (if word_in (codes "med" ∷ codes "metric" ∷ []) tokens then med_at (behind tokens)
    else (if word_is (codes "weight") tokens then weight_at (behind tokens)
    else route_item_at place tokens))

-- words in the place of an item that are left out there
abbrev pub is_refused_item : SetPlace → List Token → Bool
is_refused_item place tokens = word_in left_out_of_rules tokens || (is_network place && word_is (codes "prepend-neighbor") tokens)

unfoldable pub item_at : SetPlace → Member Item
item_at place full tokens =
    if is_refused_item place tokens then fails NotInProfile tokens
    else (if word_in item_words tokens then unless_full full counted.Items tokens (known_item_at place tokens)
    else unexpected tokens)

-- the most items of one set
abbrev pub most_items : ℕ
most_items = 16

-- what stands behind `set`
unfoldable pub set_at : SetPlace → List Token → Reading (List Item)
set_at place tokens = one_or_list_at (item_at place) most_items tokens

-- a set where there may be one
unfoldable pub optional_set_at : SetPlace → List Token → Reading (List Item)
optional_set_at place tokens = if word_is (codes "set") tokens then set_at place (behind tokens) else Ok ([], tokens)
