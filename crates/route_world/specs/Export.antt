-- What a session is told of the best route to a prefix (RFC 4271 section 9.1.3, RFC 1997, RFC 8212).
use Rattle.std.specs.Prelude.{ℕ, ◌+◌, ◌/◌, Bool, true, false, not, ◌&&◌, ◌||◌, List, [], ◌∷◌, length, Option, Some, None, option_map, option_and_then, unwrap_or, ◌==◌, nat_le, if◌then◌else◌}
use Rattle.std.specs.List.{list_any}
use Rattle.net_base.specs.declared.addr.Family.{Family}
use Rattle.net_base.specs.declared.addr.Family.TheVariants.{V4, V6}
use Rattle.net_base.specs.declared.addr.Addr.{Addr}
use Rattle.net_base.specs.declared.prefix.Prefix.{Prefix}
use Rattle.net_base.specs.Order.{same_family}
use Rattle.net_base.specs.Bits.{addr_of}
use Rattle.bgp_wire.specs.declared.open.OpenFacts.{OpenFacts}
use Rattle.bgp_wire.specs.declared.open.Encoding.{Encoding}
use Rattle.attr_model.specs.declared.attrs.Attrs.{Attrs}
use Rattle.attr_model.specs.Path.{prepended}
use Rattle.attr_codec.specs.Prefixes.{prefix_bytes}
use Rattle.attr_codec.specs.Size.{update_size}
use Rattle.conf_tree.specs.declared.conf.Conf.{Conf}
use Rattle.conf_tree.specs.declared.neighbour.Neighbour.{Neighbour}
use Rattle.decision.specs.declared.candidate.Candidate.{Candidate}
use Rattle.decision.specs.declared.candidate.Origin.{Origin}
use Rattle.decision.specs.declared.candidate.Origin.TheVariants.{Local, External, Internal}
use Rattle.filter_engine.specs.declared.context.Context.{Context}
use Rattle.filter_engine.specs.declared.verdict.Hop.{Hop}
use Rattle.filter_engine.specs.declared.verdict.Hop.TheVariants.{Unset, SelfHop, NoModify, Given}
use Rattle.filter_engine.specs.Verdict.{verdict}
use Rattle.filter_engine.specs.Conditions.{same_address}

-- ---- what keeps a route back before any rule is read

-- the route came from this neighbour
abbrev pub came_from : Addr → Origin → Bool
came_from peer Local = false
came_from peer (External from) = same_address from peer
came_from peer (Internal from) = same_address from peer

abbrev pub is_internal : Origin → Bool
is_internal Local = false
is_internal (External from) = false
is_internal (Internal from) = true

abbrev pub is_local : Origin → Bool
is_local Local = true
is_local (External from) = false
is_local (Internal from) = false

-- RFC 1997: NO_ADVERTISE goes to nobody, NO_EXPORT and NO_EXPORT_SUBCONFED to no other AS.
abbrev pub has_community : ℕ → Attrs → Bool
has_community community attrs = list_any (λ other. other == community) attrs.communities

abbrev pub is_held_by_community : Bool → Attrs → Bool
is_held_by_community external attrs =
    has_community 0xffffff02 attrs || (external && (has_community 0xffffff01 attrs || has_community 0xffffff03 attrs))

-- the family is agreed, and the neighbour's configuration announces it
abbrev pub exchanges : Encoding → Neighbour → Family → Bool
exchanges enc neighbour V4 = enc.v4 && neighbour.announce_v4
exchanges enc neighbour V6 = enc.v6 && neighbour.announce_v6

-- A route isn't told back to where it came from, nor an internal one to an internal neighbour (RFC 4271 section 9.2.1).
abbrev pub is_kept_back : Encoding → Neighbour → Prefix → Candidate → Bool
is_kept_back enc neighbour prefix best =
    came_from neighbour.address best.from
    || (is_internal best.from && not enc.external)
    || is_held_by_community enc.external best.attrs.attrs
    || not (exchanges enc neighbour prefix.family)

-- ---- attributes

-- A MED that came from a neighbour goes to no other AS (RFC 4271 section 5.1.4).
abbrev pub without_med : Bool → Origin → Attrs → Attrs
without_med external from attrs = if external && not (is_local from) then record attrs { med = None } else attrs

-- for which neighbour and prefix the rules `to` it are read
abbrev pub export_context : Conf → OpenFacts → Neighbour → Prefix → Context
export_context conf facts neighbour prefix = record {
  to = true;
  rib = neighbour.rib;
  peer = neighbour.address;
  peer_as = facts.asn;
  group = neighbour.group;
  external = facts.encoding.external;
  own_as = conf.asn;
  prefix = prefix;
}

-- The own address of a session for a family: its local-address, otherwise the router-id for IPv4; there may be none for IPv6.
abbrev pub router_address : Conf → Family → Option Addr
router_address conf V4 = Some (addr_of V4 conf.router_id)
router_address conf V6 = None

abbrev pub own_address_or : Conf → Family → Option Addr → Option Addr
own_address_or conf family None = router_address conf family
own_address_or conf family (Some local) = if same_family local.family family then Some local else router_address conf family

abbrev pub own_address : Conf → Neighbour → Family → Option Addr
own_address conf neighbour family = own_address_or conf family neighbour.local_address

-- an unspecified next hop becomes the own address
abbrev pub specified_or : Option Addr → Addr → Option Addr
specified_or own hop = if hop.bits == 0 then own else Some hop

-- The next hop that is told (RFC 4271 section 5.1.3): the one that rules chose, otherwise the own address to another AS and the
-- route's within the own one.
abbrev pub told_hop : Option Addr → Bool → Hop → Addr → Option Addr
told_hop own external SelfHop hop = own
told_hop own external NoModify hop = specified_or own hop
told_hop own external (Given address) hop = specified_or own address
told_hop own external Unset hop = if external then own else specified_or own hop

-- To another AS the own number stands in front of the path and LOCAL_PREF is left out (RFC 4271 sections 5.1.2, 5.1.5).
-- Within the own AS LOCAL_PREF is sent, 100 where there is none. The weight is never sent.
abbrev pub told_attrs : Conf → Bool → Attrs → Addr → Attrs
told_attrs conf external attrs hop =
    if external
    then record attrs { hop = hop; weight = 0; local_pref = None; path = prepended conf.asn 1 attrs.path }
    else record attrs { hop = hop; weight = 0; local_pref = Some (unwrap_or attrs.local_pref 100) }

-- the attributes behind the rules, unless there is no next hop to tell
abbrev pub as_told : Conf → OpenFacts → Neighbour → Prefix → Attrs × Hop → Option Attrs
as_told conf facts neighbour prefix passed =
    option_map (told_attrs conf facts.encoding.external passed.0)
    (told_hop (own_address conf neighbour prefix.family) facts.encoding.external passed.1 passed.0.hop)

-- the greatest length of a message (RFC 4271 section 4.1)
abbrev pub most_message_bytes : ℕ
most_message_bytes = 4096

abbrev pub if_it_fits : Encoding → Prefix → Attrs → Option Attrs
if_it_fits enc prefix attrs =
    if nat_le (update_size enc attrs (length (prefix_bytes prefix))) most_message_bytes then Some attrs else None

abbrev pub told_if_it_fits : Conf → OpenFacts → Neighbour → Prefix → Attrs × Hop → Option Attrs
told_if_it_fits conf facts neighbour prefix passed =
    option_and_then (if_it_fits facts.encoding prefix) (as_told conf facts neighbour prefix passed)

-- ---- what is told

-- What a session with this neighbour is told of the best route: nothing where something keeps it back, a rule denies it, there
-- is no next hop to tell, or its UPDATE would be longer than a message may be.
unfoldable pub export : Conf → OpenFacts → Neighbour → Prefix → Candidate → Option Attrs
export conf facts neighbour prefix best =
    if is_kept_back facts.encoding neighbour prefix best then None
    else option_and_then (told_if_it_fits conf facts neighbour prefix)
    (verdict conf conf.rules (export_context conf facts neighbour prefix) (without_med facts.encoding.external best.from best.attrs.attrs))
