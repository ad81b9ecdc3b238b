-- What the conditions of a rule say of a route (bgpd.conf(5), FILTER).
use Rattle.std.specs.Prelude.{ℕ, ◌-◌, ◌/◌, ◌%◌, Bool, true, false, not, ◌&&◌, ◌==◌, nat_lt, List, take, drop, length, Option, Some, None, bytes_eq}
use Rattle.std.specs.List.{list_any, list_all, flat_map}
use Rattle.std.specs.Option.{option_map_or}
use Rattle.net_base.specs.declared.addr.Addr.{Addr}
use Rattle.net_base.specs.declared.roa.Ovs.{Ovs}
use Rattle.net_base.specs.declared.roa.Ovs.TheVariants.{Valid, Invalid, NotFound}
use Rattle.net_base.specs.Order.{same_family}
use Rattle.net_base.specs.Roa.{origin_validation}
use Rattle.attr_model.specs.declared.path.Segment.{Segment}
use Rattle.attr_model.specs.declared.attrs.Attrs.{Attrs}
use Rattle.attr_model.specs.Path.{path_length}
use Rattle.attr_model.specs.Valid.{numbers_of}
use Rattle.conf_tree.specs.declared.conf.Conf.{Conf}
use Rattle.conf_tree.specs.declared.rule.PathPart.{PathPart}
use Rattle.conf_tree.specs.declared.rule.PathPart.TheVariants as part
use Rattle.conf_tree.specs.declared.rule.CommunityPattern.{CommunityPattern}
use Rattle.conf_tree.specs.declared.rule.LargePattern.{LargePattern}
use Rattle.conf_tree.specs.declared.rule.Condition.{Condition}
use Rattle.conf_tree.specs.declared.rule.Condition.TheVariants as asks
use Rattle.conf_tree.specs.declared.rule.Peer.{Peer}
use Rattle.conf_tree.specs.declared.rule.Peer.TheVariants as peer
use Rattle.conf_tree.specs.declared.rule.Direction.{Direction}
use Rattle.conf_tree.specs.declared.rule.Direction.TheVariants as goes
use Rattle.conf_tree.specs.declared.rule.Rule.{Rule}
use Rattle.conf_tree.specs.Membership.{holds, in_prefix_set, in_prefix_set_or_longer, in_as_set, in_origin_set}
use Rattle.filter_engine.specs.declared.context.Context.{Context}
use Rattle.filter_engine.specs.declared.verdict.Hop.{Hop}
use Rattle.filter_engine.specs.declared.verdict.Hop.TheVariants.{Unset, SelfHop, NoModify, Given}

-- ---- numbers of the path

-- the numbers in order, sets included
abbrev pub path_numbers : List Segment → List ℕ
path_numbers path = flat_map numbers_of path

-- a number that stands last may stand before too, and is a transit AS then
abbrev pub numbers_in : PathPart → List ℕ → List ℕ
numbers_in part.Any numbers = numbers
numbers_in part.Source numbers = drop (length numbers - 1) numbers
numbers_in part.Transit numbers = take (length numbers - 1) numbers
numbers_in part.Peer numbers = take 1 numbers

-- ---- communities

abbrev pub agrees : Option ℕ → ℕ → Bool
agrees None number = true
agrees (Some wanted) number = number == wanted

-- the halves of a community are its high and its low 16 bits
abbrev pub community_agrees : CommunityPattern → ℕ → Bool
community_agrees pattern community = agrees pattern.high (community / 65536) && agrees pattern.low (community % 65536)

abbrev pub large_agrees : LargePattern → ℕ × ℕ × ℕ → Bool
large_agrees pattern large = agrees pattern.global large.0 && agrees pattern.first large.1 && agrees pattern.second large.2

-- ---- addresses

abbrev pub same_address : Addr → Addr → Bool
same_address one other = same_family one.family other.family && (one.bits == other.bits)

-- the next hop that rules gave, otherwise that of the attributes
abbrev pub hop_seen : Hop → Addr → Addr
hop_seen Unset hop = hop
hop_seen SelfHop hop = hop
hop_seen NoModify hop = hop
hop_seen (Given address) hop = address

abbrev pub same_ovs : Ovs → Ovs → Bool
same_ovs Valid Valid = true
same_ovs Invalid Invalid = true
same_ovs NotFound NotFound = true
same_ovs one other = false

-- ---- conditions

-- Whether a condition holds for a route as it stands: its attributes, and the next hop that rules gave. The origin is that of
-- the path as it was when the evaluation began.
abbrev pub condition_holds : Conf → Context → Option ℕ → Attrs → Hop → Condition → Bool
condition_holds conf context origin attrs hop (asks.Prefix range) = holds context.prefix range
condition_holds conf context origin attrs hop (asks.PrefixSet set) = in_prefix_set conf set context.prefix
condition_holds conf context origin attrs hop (asks.PrefixSetOrLonger set) = in_prefix_set_or_longer conf set context.prefix
condition_holds conf context origin attrs hop (asks.PathNumber place asn) = list_any (λ number. number == asn) (numbers_in place (path_numbers attrs.path))
condition_holds conf context origin attrs hop (asks.PathSet place set) = list_any (in_as_set conf set) (numbers_in place (path_numbers attrs.path))
condition_holds conf context origin attrs hop (asks.OriginSet set) = in_origin_set conf set context.prefix origin
condition_holds conf context origin attrs hop (asks.Ovs wanted) = same_ovs (origin_validation conf.roas context.prefix origin) wanted
condition_holds conf context origin attrs hop (asks.Community pattern) = list_any (community_agrees pattern) attrs.communities
condition_holds conf context origin attrs hop (asks.LargeCommunity pattern) = list_any (large_agrees pattern) attrs.large
condition_holds conf context origin attrs hop (asks.MaxAsLen most) = nat_lt most (path_length attrs.path)
condition_holds conf context origin attrs hop (asks.NextHop address) = same_address (hop_seen hop attrs.hop) address
condition_holds conf context origin attrs hop (asks.Family family) = same_family context.prefix.family family

-- ---- rules

abbrev pub direction_fits : Direction → Context → Bool
direction_fits goes.From context = not context.to
direction_fits goes.To context = context.to

-- a rule of one RIB holds for routes that come into it
abbrev pub rib_fits : Option ℕ → Context → Bool
rib_fits None context = true
rib_fits (Some rib) context = not context.to && (context.rib == rib)

abbrev pub peer_fits : Peer → Context → Bool
peer_fits peer.Any context = true
peer_fits peer.Ebgp context = context.external
peer_fits peer.Ibgp context = not context.external
peer_fits (peer.Address address) context = same_address context.peer address
peer_fits (peer.Group name) context = option_map_or (λ group. bytes_eq group name) context.group false
peer_fits (peer.As asn) context = context.peer_as == asn

-- a rule matches where its direction, RIB and peers fit and all its conditions hold
abbrev pub rule_matches : Conf → Context → Option ℕ → Attrs → Hop → Rule → Bool
rule_matches conf context origin attrs hop rule =
    direction_fits rule.direction context && rib_fits rule.rib context && peer_fits rule.peer context
    && list_all (condition_holds conf context origin attrs hop) rule.conditions
