-- Worlds: what a speaker has configured and was told. Its tables follow from that by plain recomputation.
use Rattle.std.specs.Prelude.{ℕ, Bool, true, false, ◌&&◌, ◌||◌, List, [], ◌∷◌, ◌++◌, map, find, Option, Some, None, nat_lt}
use Rattle.std.specs.List.{fold, list_any, flat_map}
use Rattle.std.specs.BTreeSet.{insert_key}
use Rattle.std.specs.BTreeMap.{is_at}
use Rattle.net_base.specs.declared.addr.Addr.{Addr}
use Rattle.net_base.specs.declared.prefix.Prefix.{Prefix}
use Rattle.net_base.specs.Order.{addr_cmp, prefix_cmp}
use Rattle.net_base.specs.Width.{width_of}
use Rattle.net_base.specs.Bits.{prefix_of}
use Rattle.net_base.specs.Prefix.{covers}
use Rattle.conf_tree.specs.declared.conf.Conf.{Conf}
use Rattle.conf_tree.specs.declared.neighbour.Neighbour.{Neighbour}
use Rattle.conf_tree.specs.declared.conf.Network.{Network}
use Rattle.route_world.specs.declared.world.World.{World}
use Rattle.route_world.specs.declared.world.Session.{Session}
use Rattle.route_world.specs.declared.world.Hops.{Hops}
use Rattle.route_world.specs.declared.world.Hops.TheVariants.{Routed, Answered}
use Rattle.filter_engine.specs.Conditions.{same_address}

-- ---- neighbours

abbrev pub neighbour_at : Conf → Addr → Option Neighbour
neighbour_at conf peer = find (λ n. same_address n.address peer) conf.neighbours

-- ---- next hops

-- A kernel route leads to an address that it covers. A default route does so only where the configuration lets it.
abbrev pub leads_to : Bool → Addr → Prefix → Bool
leads_to by_default addr route = covers route (prefix_of addr (width_of addr.family)) && (by_default || nat_lt 0 route.len)

-- the answer is yes, and it is for this address
abbrev pub is_yes : Option Bool → Bool
is_yes None = false
is_yes (Some answer) = answer

abbrev pub is_valid_by : Bool → Addr → Hops → Bool
is_valid_by by_default addr (Routed routes) = list_any (leads_to by_default addr) routes
is_valid_by by_default addr (Answered answers) = list_any (λ (entry : Addr × Option Bool). same_address entry.0 addr && is_yes entry.1) answers

-- whether an address is valid as a next hop
abbrev pub is_valid : World → Addr → Bool
is_valid world addr = is_valid_by world.conf.qualify_default addr world.hops

-- ---- prefixes

-- the prefixes of its held routes and of its networks, in order
abbrev pub held_prefixes : Session → List Prefix
held_prefixes session = map (λ route. route.0) session.held

abbrev pub with_prefixes : List Prefix → Session → List Prefix
with_prefixes known session = fold (insert_key prefix_cmp) known (held_prefixes session)

abbrev pub known_prefixes : World → List Prefix
known_prefixes world =
    fold (insert_key prefix_cmp) (fold with_prefixes [] world.sessions) (map (λ network. network.prefix) world.conf.networks)
