-- The canonical text of a configuration: one statement a line, words separated by one blank, and every value printed
-- that has a default.
use Rattle.std.specs.Prelude.{ℕ, ◌-◌, ◌/◌, ◌%◌, Bool, true, false, not, List, [], ◌∷◌, ◌++◌, Option, None, Some, is_some, ◌==◌, if◌then◌else◌, slice_get, bytes_eq, codes, decimal, flat_map, fold}
use Rattle.std.specs.List.{filter, join_by}
use Rattle.std.specs.Option.{option_map_or}
use Rattle.std.specs.Ordering.{nat_cmp}
use Rattle.std.specs.Cmp.Lexicographic.{slice_cmp}
use Rattle.std.specs.BTreeSet.{insert_key}
use Rattle.net_base.specs.declared.addr.Family.{Family}
use Rattle.net_base.specs.declared.addr.Family.TheVariants.{V4, V6}
use Rattle.net_base.specs.declared.addr.Addr.{Addr}
use Rattle.net_base.specs.declared.roa.Roa.{Roa}
use Rattle.net_base.specs.declared.roa.Ovs.{Ovs}
use Rattle.net_base.specs.declared.roa.Ovs.TheVariants.{Valid, Invalid, NotFound}
use Rattle.net_base.specs.Addr.{bits_text, addr_text}
use Rattle.net_base.specs.Prefix.{prefix_text}
use Rattle.conf_tree.specs.declared.conf.Conf.{Conf}
use Rattle.conf_tree.specs.declared.conf.Listen.{Listen}
use Rattle.conf_tree.specs.declared.conf.Network.{Network}
use Rattle.conf_tree.specs.declared.conf.Rib.{Rib}
use Rattle.conf_tree.specs.declared.neighbour.Neighbour.{Neighbour}
use Rattle.conf_tree.specs.declared.sets.PrefixRange.{PrefixRange}
use Rattle.conf_tree.specs.declared.sets.PrefixSetConf.{PrefixSetConf}
use Rattle.conf_tree.specs.declared.sets.AsSetConf.{AsSetConf}
use Rattle.conf_tree.specs.declared.sets.OriginSetConf.{OriginSetConf}
use Rattle.conf_tree.specs.declared.rule.Action.{Action}
use Rattle.conf_tree.specs.declared.rule.Action.TheVariants.{Allow, Deny, Match}
use Rattle.conf_tree.specs.declared.rule.Direction.{Direction}
use Rattle.conf_tree.specs.declared.rule.Direction.TheVariants.{From, To}
use Rattle.conf_tree.specs.declared.rule.Peer.{Peer}
use Rattle.conf_tree.specs.declared.rule.Peer.TheVariants as peers
use Rattle.conf_tree.specs.declared.rule.PathPart.{PathPart}
use Rattle.conf_tree.specs.declared.rule.PathPart.TheVariants as parts
use Rattle.conf_tree.specs.declared.rule.CommunityPattern.{CommunityPattern}
use Rattle.conf_tree.specs.declared.rule.LargePattern.{LargePattern}
use Rattle.conf_tree.specs.declared.rule.Condition.{Condition}
use Rattle.conf_tree.specs.declared.rule.Condition.TheVariants as conditions
use Rattle.conf_tree.specs.declared.rule.Change.{Change}
use Rattle.conf_tree.specs.declared.rule.Change.TheVariants.{Set, Add, Subtract}
use Rattle.conf_tree.specs.declared.rule.RouteOrigin.{RouteOrigin}
use Rattle.conf_tree.specs.declared.rule.RouteOrigin.TheVariants.{Igp, Egp, Incomplete}
use Rattle.conf_tree.specs.declared.rule.NextHop.{NextHop}
use Rattle.conf_tree.specs.declared.rule.NextHop.TheVariants as hops
use Rattle.conf_tree.specs.declared.rule.Item.{Item}
use Rattle.conf_tree.specs.declared.rule.Item.TheVariants as items
use Rattle.conf_tree.specs.declared.rule.Rule.{Rule}

-- ---- words

abbrev pub yes_no : Bool → List ℕ
yes_no flag = if flag then codes "yes" else codes "no"

-- a text between quotes
abbrev pub quoted : List ℕ → List ℕ
quoted text = codes "\"" ++ (text ++ codes "\"")

-- a text where it holds, and otherwise nothing
abbrev pub if_set : Bool → List ℕ → List ℕ
if_set true text = text
if_set false text = []

-- the text of a value, and nothing where there is none
abbrev pub if_given : {A : Type 0} → (A → List ℕ) → Option A → List ℕ
if_given text None = []
if_given text (Some value) = text value

-- ---- names

-- the name of the set, or of the RIB, at a place of its list
abbrev pub name_at : {S : Type 0} → (S → List ℕ) → List S → ℕ → List ℕ
name_at name sets at = option_map_or name (slice_get sets at) []

unfoldable pub prefix_set_name : Conf → ℕ → List ℕ
prefix_set_name conf at = name_at (λ s. s.name) conf.prefix_sets at

unfoldable pub as_set_name : Conf → ℕ → List ℕ
as_set_name conf at = name_at (λ s. s.name) conf.as_sets at

unfoldable pub origin_set_name : Conf → ℕ → List ℕ
origin_set_name conf at = name_at (λ s. s.name) conf.origin_sets at

-- RIB 0 is Loc-RIB, and RIB n the n-th of the others
unfoldable pub rib_name : Conf → ℕ → List ℕ
rib_name conf number = if number == 0 then codes "Loc-RIB" else name_at (λ r. r.name) conf.ribs (number - 1)

-- ---- items of a set

abbrev pub change_text : Change → List ℕ
change_text (Set n) = decimal n
change_text (Add n) = codes "+" ++ decimal n
change_text (Subtract n) = codes "-" ++ decimal n

-- a part of a community that agrees with every number is a star
abbrev pub part_text : Option ℕ → List ℕ
part_text None = codes "*"
part_text (Some n) = decimal n

unfoldable pub pattern_text : CommunityPattern → List ℕ
pattern_text p = part_text p.high ++ (codes ":" ++ part_text p.low)

unfoldable pub large_pattern_text : LargePattern → List ℕ
large_pattern_text p = part_text p.global ++ (codes ":" ++ (part_text p.first ++ (codes ":" ++ part_text p.second)))

-- a community by its two halves, also where it has a name
unfoldable pub community_text : ℕ → List ℕ
community_text n = decimal (n / 65536) ++ (codes ":" ++ decimal (n % 65536))

abbrev pub large_text : ℕ → ℕ → ℕ → List ℕ
large_text global first second = decimal global ++ (codes ":" ++ (decimal first ++ (codes ":" ++ decimal second)))

abbrev pub origin_word : RouteOrigin → List ℕ
origin_word Igp = codes "igp"
origin_word Egp = codes "egp"
origin_word Incomplete = codes "incomplete"

abbrev pub hop_text : NextHop → List ℕ
hop_text (hops.Address address) = addr_text address
hop_text hops.Own = codes "self"
hop_text hops.NoModify = codes "no-modify"

unfoldable pub item_text : Item → List ℕ
item_text (items.LocalPref change) = codes "localpref " ++ change_text change
item_text (items.Med change) = codes "med " ++ change_text change
item_text (items.Weight change) = codes "weight " ++ change_text change
item_text (items.PrependSelf times) = codes "prepend-self " ++ decimal times
item_text (items.PrependNeighbor times) = codes "prepend-neighbor " ++ decimal times
item_text (items.Origin origin) = codes "origin " ++ origin_word origin
item_text (items.Community community) = codes "community " ++ community_text community
item_text (items.DeleteCommunity pattern) = codes "community delete " ++ pattern_text pattern
item_text (items.LargeCommunity global first second) = codes "large-community " ++ large_text global first second
item_text (items.DeleteLargeCommunity pattern) = codes "large-community delete " ++ large_pattern_text pattern
item_text (items.NextHop hop) = codes "nexthop " ++ hop_text hop

-- items with commas between them, in braces also where there is one
unfoldable pub set_text : List Item → List ℕ
set_text set = codes "set { " ++ (join_by item_text (codes ", ") set ++ codes " }")

-- the set behind a statement, which has none where there are no items
abbrev pub set_behind : List Item → List ℕ
set_behind [] = []
set_behind (item ∷ set) = codes " " ++ set_text (item ∷ set)

-- ---- one line for each statement of global values

unfoldable pub as_line : ℕ → List ℕ
as_line asn = codes "AS " ++ (decimal asn ++ codes "\n")

unfoldable pub router_id_line : ℕ → List ℕ
router_id_line bits = codes "router-id " ++ (bits_text V4 bits ++ codes "\n")

unfoldable pub hold_line : ℕ → List ℕ
hold_line seconds = codes "holdtime " ++ (decimal seconds ++ codes "\n")

unfoldable pub hold_min_line : ℕ → List ℕ
hold_min_line seconds = codes "holdtime min " ++ (decimal seconds ++ codes "\n")

unfoldable pub fib_update_line : Bool → List ℕ
fib_update_line updates = codes "fib-update " ++ (yes_no updates ++ codes "\n")

unfoldable pub qualify_line : Bool → List ℕ
qualify_line qualifies = if_set qualifies (codes "nexthop qualify via default\n")

unfoldable pub med_line : Bool → List ℕ
med_line always = codes "rde med compare " ++ ((if always then codes "always" else codes "strict") ++ codes "\n")

unfoldable pub socket_line : List ℕ → List ℕ
socket_line path = codes "socket " ++ (quoted path ++ codes "\n")

unfoldable pub listen_line : Listen → List ℕ
listen_line l = codes "listen on " ++ (addr_text l.address ++ (codes " port " ++ (decimal l.port ++ codes "\n")))

-- ---- RIBs, sets and networks

abbrev pub table_behind : ℕ → List ℕ
table_behind table = codes " rtable " ++ decimal table

unfoldable pub rib_line : Rib → List ℕ
rib_line r = codes "rde rib " ++ (r.name ++ (if_given table_behind r.table ++ codes "\n"))

-- an entry of a set, behind a tab
abbrev pub entry_line : List ℕ → List ℕ
entry_line text = codes "\t" ++ (text ++ codes "\n")

unfoldable pub range_text : PrefixRange → List ℕ
range_text r = prefix_text r.prefix ++ (codes " prefixlen " ++ (decimal r.low ++ (codes " - " ++ decimal r.high)))

unfoldable pub roa_text : Roa → List ℕ
roa_text r = prefix_text r.prefix ++ (codes " maxlen " ++ (decimal r.maxlen ++ (codes " source-as " ++ decimal r.source)))

abbrev pub range_line : PrefixRange → List ℕ
range_line r = entry_line (range_text r)

abbrev pub number_line : ℕ → List ℕ
number_line n = entry_line (decimal n)

abbrev pub roa_line : Roa → List ℕ
roa_line r = entry_line (roa_text r)

-- the first line of a set: its kind and its name
unfoldable pub set_head : List ℕ → List ℕ → List ℕ
set_head kind name = kind ++ (codes " " ++ (name ++ codes " {\n"))

unfoldable pub prefix_set_text : PrefixSetConf → List ℕ
prefix_set_text s = set_head (codes "prefix-set") s.name ++ (flat_map range_line s.entries ++ codes "}\n")

unfoldable pub as_set_text : AsSetConf → List ℕ
as_set_text s = set_head (codes "as-set") s.name ++ (flat_map number_line s.numbers ++ codes "}\n")

unfoldable pub origin_set_text : OriginSetConf → List ℕ
origin_set_text s = set_head (codes "origin-set") s.name ++ (flat_map roa_line s.entries ++ codes "}\n")

-- the roa-set is left out where it has no entries
abbrev pub roa_set_text : List Roa → List ℕ
roa_set_text [] = []
roa_set_text (r ∷ roas) = codes "roa-set {\n" ++ (flat_map roa_line (r ∷ roas) ++ codes "}\n")

unfoldable pub network_line : Network → List ℕ
network_line n = codes "network " ++ (prefix_text n.prefix ++ (set_behind n.set ++ codes "\n"))

-- ---- neighbours: their options in the order of the grammar, each behind a tab

unfoldable pub remote_as_line : ℕ → List ℕ
remote_as_line asn = codes "\tremote-as " ++ (decimal asn ++ codes "\n")

abbrev pub local_address_line : Addr → List ℕ
local_address_line address = codes "\tlocal-address " ++ (addr_text address ++ codes "\n")

abbrev pub descr_line : List ℕ → List ℕ
descr_line text = codes "\tdescr " ++ (quoted text ++ codes "\n")

unfoldable pub port_line : ℕ → List ℕ
port_line port = codes "\tport " ++ (decimal port ++ codes "\n")

abbrev pub multihop_line : ℕ → List ℕ
multihop_line hops = codes "\tmultihop " ++ (decimal hops ++ codes "\n")

-- whether and how far connections are made: from `passive` to `multihop`
unfoldable pub way_options : Neighbour → List ℕ
way_options n = if_set n.passive (codes "\tpassive\n") ++ (if_set n.down (codes "\tdown\n") ++ if_given multihop_line n.multihop)

-- with whom the session is: from `remote-as` to `multihop`
unfoldable pub link_options : Neighbour → List ℕ
link_options n =
    remote_as_line n.remote_as ++ (if_given local_address_line n.local_address ++ (if_given descr_line n.description
    ++ (port_line n.port ++ way_options n)))

abbrev pub unicast : Bool → List ℕ
unicast flag = if flag then codes "unicast" else codes "none"

abbrev pub hold_options : ℕ → ℕ → List ℕ
hold_options hold least = codes "\tholdtime " ++ (decimal hold ++ (codes "\n\tholdtime min " ++ (decimal least ++ codes "\n")))

abbrev pub families_options : Bool → Bool → List ℕ
families_options v4 v6 = codes "\tannounce IPv4 " ++ (unicast v4 ++ (codes "\n\tannounce IPv6 " ++ (unicast v6 ++ codes "\n")))

abbrev pub capability_options : Bool → Bool → List ℕ
capability_options refresh as_4byte = codes "\tannounce refresh " ++ (yes_no refresh ++ (codes "\n\tannounce as-4byte " ++ (yes_no as_4byte ++ codes "\n")))

-- what is agreed at its beginning: from `holdtime` to `announce as-4byte`
unfoldable pub open_options : Neighbour → List ℕ
open_options n =
    hold_options n.hold n.hold_min ++ (families_options n.announce_v4 n.announce_v6 ++ capability_options n.announce_refresh n.announce_as_4byte)

abbrev pub max_prefix_line : ℕ → List ℕ
max_prefix_line most = codes "\tmax-prefix " ++ (decimal most ++ codes "\n")

unfoldable pub rib_option : Conf → ℕ → List ℕ
rib_option conf rib = codes "\trib " ++ (rib_name conf rib ++ codes "\n")

-- the set of a neighbour, which has none where there are no items
abbrev pub set_option : List Item → List ℕ
set_option [] = []
set_option (item ∷ set) = codes "\t" ++ (set_text (item ∷ set) ++ codes "\n")

-- what becomes of its routes: from `max-prefix` to `set`
unfoldable pub route_options : Conf → Neighbour → List ℕ
route_options conf n = if_given max_prefix_line n.max_prefix ++ (rib_option conf n.rib ++ set_option n.set)

unfoldable pub neighbour_text : Conf → Neighbour → List ℕ
neighbour_text conf n =
    codes "neighbor " ++ (addr_text n.address ++ (codes " {\n"
    ++ (link_options n ++ (open_options n ++ (route_options conf n ++ codes "}\n")))))

-- ---- groups

-- the neighbour stands in no group
abbrev pub is_alone : Neighbour → Bool
is_alone n = not (is_some n.group)

-- the neighbour stands in the group of this name
abbrev pub is_of_group : List ℕ → Neighbour → Bool
is_of_group name n = option_map_or (λ group. bytes_eq group name) n.group false

-- names with one more at its place by their bytes, where there is one and it isn't among them
abbrev pub with_name : List (List ℕ) → Option (List ℕ) → List (List ℕ)
with_name names None = names
with_name names (Some name) = insert_key (slice_cmp nat_cmp) names name

-- the names of the groups, ascending by their bytes, each once
unfoldable pub group_names : List Neighbour → List (List ℕ)
group_names neighbours = fold (λ names n. with_name names n.group) [] neighbours

-- a group with its neighbours, which have no further tab
unfoldable pub group_text : Conf → List ℕ → List ℕ
group_text conf name =
    codes "group " ++ (quoted name ++ (codes " {\n"
    ++ (flat_map (neighbour_text conf) (filter (is_of_group name) conf.neighbours) ++ codes "}\n")))

-- ---- rules

abbrev pub action_word : Action → List ℕ
action_word Allow = codes "allow"
action_word Deny = codes "deny"
action_word Match = codes "match"

abbrev pub direction_word : Direction → List ℕ
direction_word From = codes "from"
direction_word To = codes "to"

unfoldable pub peer_text : Peer → List ℕ
peer_text peers.Any = codes "any"
peer_text peers.Ebgp = codes "ebgp"
peer_text peers.Ibgp = codes "ibgp"
peer_text (peers.Address address) = addr_text address
peer_text (peers.Group name) = codes "group " ++ quoted name
peer_text (peers.As asn) = codes "AS " ++ decimal asn

abbrev pub path_word : PathPart → List ℕ
path_word parts.Any = codes "AS"
path_word parts.Source = codes "source-as"
path_word parts.Transit = codes "transit-as"
path_word parts.Peer = codes "peer-as"

abbrev pub ovs_word : Ovs → List ℕ
ovs_word Valid = codes "valid"
ovs_word Invalid = codes "invalid"
ovs_word NotFound = codes "not-found"

abbrev pub family_word : Family → List ℕ
family_word V4 = codes "inet"
family_word V6 = codes "inet6"

unfoldable pub condition_text : Conf → Condition → List ℕ
condition_text conf (conditions.Prefix range) = codes "prefix " ++ range_text range
condition_text conf (conditions.PrefixSet set) = codes "prefix-set " ++ prefix_set_name conf set.at
condition_text conf (conditions.PrefixSetOrLonger set) = codes "prefix-set " ++ (prefix_set_name conf set.at ++ codes " or-longer")
condition_text conf (conditions.PathNumber part asn) = path_word part ++ (codes " " ++ decimal asn)
condition_text conf (conditions.PathSet part set) = path_word part ++ (codes " as-set " ++ as_set_name conf set.at)
condition_text conf (conditions.OriginSet set) = codes "origin-set " ++ origin_set_name conf set.at
condition_text conf (conditions.Ovs ovs) = codes "ovs " ++ ovs_word ovs
condition_text conf (conditions.Community pattern) = codes "community " ++ pattern_text pattern
condition_text conf (conditions.LargeCommunity pattern) = codes "large-community " ++ large_pattern_text pattern
condition_text conf (conditions.MaxAsLen most) = codes "max-as-len " ++ decimal most
condition_text conf (conditions.NextHop address) = codes "nexthop " ++ addr_text address
condition_text conf (conditions.Family family) = family_word family

abbrev pub condition_behind : Conf → Condition → List ℕ
condition_behind conf condition = codes " " ++ condition_text conf condition

unfoldable pub rib_behind : Conf → ℕ → List ℕ
rib_behind conf number = codes " rib " ++ rib_name conf number

-- what stands before the conditions: whose routes the rule is about
unfoldable pub rule_head : Conf → Rule → List ℕ
rule_head conf r =
    action_word r.action ++ (if_set r.quick (codes " quick") ++ (if_given (rib_behind conf) r.rib
    ++ (codes " " ++ (direction_word r.direction ++ (codes " " ++ peer_text r.peer)))))

-- a rule with its one peer
unfoldable pub rule_line : Conf → Rule → List ℕ
rule_line conf r = rule_head conf r ++ (flat_map (condition_behind conf) r.conditions ++ (set_behind r.set ++ codes "\n"))

-- ---- the whole text

unfoldable pub globals_text : Conf → List ℕ
globals_text conf =
    as_line conf.asn ++ (router_id_line conf.router_id ++ (hold_line conf.hold ++ (hold_min_line conf.hold_min
    ++ (fib_update_line conf.fib_update ++ (qualify_line conf.qualify_default ++ (med_line conf.med_always
    ++ (socket_line conf.socket ++ flat_map listen_line conf.listen)))))))

unfoldable pub sets_text : Conf → List ℕ
sets_text conf =
    flat_map prefix_set_text conf.prefix_sets ++ (flat_map as_set_text conf.as_sets
    ++ (flat_map origin_set_text conf.origin_sets ++ roa_set_text conf.roas))

-- the neighbours without a group, and then each group by name
unfoldable pub neighbours_text : Conf → List ℕ
neighbours_text conf =
    flat_map (neighbour_text conf) (filter is_alone conf.neighbours)
    ++ flat_map (group_text conf) (group_names conf.neighbours)

unfoldable pub canonical : Conf → List ℕ
canonical conf =
    globals_text conf ++ (flat_map rib_line conf.ribs ++ (sets_text conf
    ++ (flat_map network_line conf.networks ++ (neighbours_text conf ++ flat_map (rule_line conf) conf.rules))))
