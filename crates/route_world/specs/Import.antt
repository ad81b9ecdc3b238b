-- How routes come into a RIB: those that neighbours announced, by the neighbour's set and the rules `from` it, and the networks
-- of the configuration.
use Rattle.std.specs.Prelude.{ℕ, Bool, true, false, not, ◌&&◌, List, [], ◌∷◌, ◌++◌, map, find, Option, Some, None, option_map, option_and_then, option_to_list, ◌==◌, if◌then◌else◌}
use Rattle.std.specs.List.{list_any, flat_map}
use Rattle.std.specs.BTreeMap.{is_at}
use Rattle.std.specs.Ordering.{is_eq}
use Rattle.net_base.specs.declared.addr.Family.{Family}
use Rattle.net_base.specs.declared.addr.Addr.{Addr}
use Rattle.net_base.specs.declared.prefix.Prefix.{Prefix}
use Rattle.net_base.specs.Order.{prefix_cmp}
use Rattle.net_base.specs.Bits.{addr_of}
use Rattle.bgp_wire.specs.declared.open.OpenFacts.{OpenFacts}
use Rattle.attr_model.specs.declared.attrs.Attrs.{Attrs}
use Rattle.attr_model.specs.declared.path.Segment.{Segment}
use Rattle.attr_model.specs.Routes.{route_at}
use Rattle.attr_model.specs.Valid.{numbers_of}
use Rattle.conf_tree.specs.declared.conf.Conf.{Conf}
use Rattle.conf_tree.specs.declared.conf.Network.{Network}
use Rattle.conf_tree.specs.declared.neighbour.Neighbour.{Neighbour}
use Rattle.conf_tree.specs.declared.rule.Item.{Item}
use Rattle.decision.specs.declared.candidate.Candidate.{Candidate}
use Rattle.decision.specs.declared.candidate.Origin.{Origin}
use Rattle.decision.specs.declared.candidate.Origin.TheVariants.{Local, External, Internal}
use Rattle.filter_engine.specs.declared.context.Context.{Context}
use Rattle.filter_engine.specs.declared.verdict.Hop.{Hop}
use Rattle.filter_engine.specs.declared.verdict.Hop.TheVariants.{Unset, SelfHop, NoModify, Given}
use Rattle.filter_engine.specs.declared.verdict.Verdict.{Verdict}
use Rattle.filter_engine.specs.declared.verdict.Verdict.TheVariants.{Deny, Same, Changed}
use Rattle.filter_engine.specs.Items.{with_items, hop_with_items}
use Rattle.filter_engine.specs.Verdict.{verdict}
use Rattle.route_world.specs.declared.world.World.{World}
use Rattle.route_world.specs.declared.world.Session.{Session}
use Rattle.route_world.specs.World.{neighbour_at, is_valid}

-- ---- sets

-- an address that was given becomes the next hop
abbrev pub with_given : Attrs → Hop → Attrs
with_given attrs (Given address) = record attrs { hop = address }
with_given attrs Unset = attrs
with_given attrs SelfHop = attrs
with_given attrs NoModify = attrs

-- what a set of a neighbour or of a network makes of a route
abbrev pub with_set : Context → List Item → Attrs → Attrs
with_set context items attrs = with_given (with_items context attrs items) (hop_with_items context Unset items)

-- ---- routes of neighbours

-- for which neighbour, RIB and prefix the rules `from` it are read
abbrev pub import_context : Conf → OpenFacts → Neighbour → ℕ → Prefix → Context
import_context conf facts neighbour rib prefix = record {
  to = false;
  rib = rib;
  peer = neighbour.address;
  peer_as = facts.asn;
  group = neighbour.group;
  external = facts.encoding.external;
  own_as = conf.asn;
  prefix = prefix;
}

abbrev pub origin_at : Bool → Addr → Origin
origin_at external peer = if external then External peer else Internal peer

-- A path that holds the own AS came round (RFC 4271 section 9.1.2).
abbrev pub has_number : ℕ → List Segment → Bool
has_number asn path = list_any (λ segment. list_any (λ number. number == asn) (numbers_of segment)) path

-- A route that passed the rules is a candidate, by its attributes behind them. It may be chosen where its path, as it was held,
-- doesn't hold the own AS, and where its next hop is valid.
abbrev pub candidate_of : World → Session → Attrs → Attrs × Hop → Candidate
candidate_of world session held passed =
    let attrs = with_given passed.0 passed.1 in
    record {
      from = origin_at session.facts.encoding.external session.peer;
      attrs = record { number = 0; attrs = attrs };
      eligible = not (has_number world.conf.asn held.path) && is_valid world attrs.hop;
      bgp_id = session.facts.id;
      own_as = world.conf.asn;
    }

-- the candidate that a held route of a neighbour is in a RIB, unless a rule denies it
abbrev pub imported : World → ℕ → Session → Prefix → Attrs → Neighbour → Option Candidate
imported world rib session prefix held neighbour =
    let context = import_context world.conf session.facts neighbour rib prefix in
    option_map (candidate_of world session held)
    (verdict world.conf world.conf.rules context (with_set context neighbour.set held))

-- None where the session holds no route of the prefix, or its neighbour isn't in the configuration
unfoldable pub import_at : World → ℕ → Session → Prefix → Option Candidate
import_at world rib session prefix =
    option_and_then (λ held. option_and_then (imported world rib session prefix held) (neighbour_at world.conf session.peer))
    (route_at session.held prefix)

-- what a verdict leaves of a route: its attributes and the choice of the next hop, or nothing
abbrev pub left_by : Attrs → Verdict → Option (Attrs × Hop)
left_by route Deny = None
left_by route (Same hop) = Some (route, hop)
left_by route (Changed attrs hop) = Some (attrs, hop)

-- ---- networks

-- The attributes with which a network enters every RIB: origin IGP, an empty path and an unspecified next
-- hop of its family (RFC 4271 section 5.1).
abbrev pub network_attrs : Family → Attrs
network_attrs family = record {
  origin = 0;
  path = [];
  hop = addr_of family 0;
  med = None;
  local_pref = None;
  atomic = false;
  aggregator = None;
  communities = [];
  large = [];
  unknown = [];
  partial = 0;
  weight = 0;
}

-- the set of a network speaks of the own AS alone
abbrev pub network_context : Conf → Prefix → Context
network_context conf prefix = record {
  to = false;
  rib = 0;
  peer = addr_of prefix.family 0;
  peer_as = conf.asn;
  group = None;
  external = false;
  own_as = conf.asn;
  prefix = prefix;
}

-- a network is always eligible, and no rule is read for it
abbrev pub network_candidate : Conf → Network → Candidate
network_candidate conf network = record {
  from = Local;
  attrs = record { number = 0; attrs = with_set (network_context conf network.prefix) network.set (network_attrs network.prefix.family) };
  eligible = true;
  bgp_id = conf.router_id;
  own_as = conf.asn;
}

abbrev pub network_at : Conf → Prefix → Option Network
network_at conf prefix = find (λ (network : Network). is_eq (prefix_cmp prefix network.prefix)) conf.networks

-- ---- candidates

-- the candidates of a prefix in a RIB: its network, then the routes of the sessions in their order
unfoldable pub candidates : World → ℕ → Prefix → List Candidate
candidates world rib prefix =
    option_to_list (option_map (network_candidate world.conf) (network_at world.conf prefix))
    ++ flat_map (λ session. option_to_list (import_at world rib session prefix)) world.sessions
