-- The line of a rule has at most 2150 bytes, and that of a network 973.
use Rattle.std.proofs.Common.{ℕ, ◌+◌, ◌*◌, ◌≤◌, Bool, true, false, List, length, codes, Option, None, Some, flat_map, arith, length-append}
use Rattle.net_base.specs.declared.addr.Family.{Family}
use Rattle.net_base.specs.declared.addr.Family.TheVariants.{V4, V6}
use Rattle.net_base.specs.declared.roa.Ovs.{Ovs}
use Rattle.net_base.specs.declared.roa.Ovs.TheVariants.{Valid, Invalid, NotFound}
use Rattle.conf_tree.specs.declared.conf.Conf.{Conf}
use Rattle.conf_tree.specs.declared.conf.Network.{Network}
use Rattle.conf_tree.specs.declared.draft.SetPlace.TheVariants as places
use Rattle.conf_tree.specs.declared.rule.Action.{Action}
use Rattle.conf_tree.specs.declared.rule.Action.TheVariants.{Allow, Deny, Match}
use Rattle.conf_tree.specs.declared.rule.Direction.{Direction}
use Rattle.conf_tree.specs.declared.rule.Direction.TheVariants.{From, To}
use Rattle.conf_tree.specs.declared.rule.Peer.{Peer}
use Rattle.conf_tree.specs.declared.rule.Peer.TheVariants as peers
use Rattle.conf_tree.specs.declared.rule.PathPart.{PathPart}
use Rattle.conf_tree.specs.declared.rule.PathPart.TheVariants as parts
use Rattle.conf_tree.specs.declared.rule.Condition.{Condition}
use Rattle.conf_tree.specs.declared.rule.Condition.TheVariants as conditions
use Rattle.conf_tree.specs.declared.rule.Rule.{Rule}
use Rattle.conf_tree.specs.RuleReading.{place_of}
use Rattle.conf_tree.specs.Canonical.{if_set, if_given, quoted, network_line, action_word, direction_word, peer_text, path_word, ovs_word, family_word, condition_text, condition_behind, rib_behind, rule_head, rule_line}
use Rattle.conf_tree.specs.Readable.{IsNetwork, IsPeer, IsCondition, IsRuleRib, IsRule, least_as}
use Rattle.conf_size.proofs.ListSizes.{each_size}
use Rattle.conf_size.proofs.AddressSizes.{four_digits, addr_size, prefix_size}
use Rattle.conf_size.proofs.EntrySizes.{number_digits, range_size}
use Rattle.conf_size.proofs.ItemSizes.{pattern_size, large_pattern_size, set_behind_size}

pub network_size : (n : Network) → IsNetwork n → length (network_line n) ≤ 973
unfolding network_line
network_size n good = omega (arith, prefix_size n.prefix, set_behind_size places.Network n.set good, length-append {A = ℕ})

-- ---- what stands before the conditions

action_size : (action : Action) → length (action_word action) ≤ 5
action_size Allow = omega arith
action_size Deny = omega arith
action_size Match = omega arith

direction_size : (direction : Direction) → length (direction_word direction) ≤ 4
direction_size From = omega arith
direction_size To = omega arith

-- two quotes around a text
pub quoted_size : (text : List ℕ) (most : ℕ) → length text ≤ most → length (quoted text) ≤ most + 2
quoted_size text most short = omega (arith, length-append {A = ℕ})

pub set_flag_size : (flag : Bool) (text : List ℕ) → length (if_set flag text) ≤ length text
set_flag_size true text = omega arith
set_flag_size false text = omega arith

peer_size : (peer : Peer) → IsPeer peer → length (peer_text peer) ≤ 39
unfolding peer_text
peer_size peers.Any good = omega arith
peer_size peers.Ebgp good = omega arith
peer_size peers.Ibgp good = omega arith
peer_size (peers.Address address) good = addr_size address
peer_size (peers.Group name) good = omega (arith, quoted_size name 31 good.short)
peer_size (peers.As asn) good = omega (arith, number_digits 1 asn good)

rib_size : (conf : Conf) (direction : Direction) (rib : Option ℕ) → IsRuleRib conf direction rib → length (if_given (rib_behind conf) rib) ≤ 36
unfolding rib_behind
rib_size conf direction None good = omega arith
rib_size conf From (Some number) good = omega (arith, good.short)
rib_size conf To (Some number) good = absurd good

head_size : (conf : Conf) (r : Rule) → IsRule conf r → length (rule_head conf r) ≤ 92
unfolding rule_head
head_size conf r good =
    omega (arith, action_size r.action, set_flag_size r.quick (codes " quick"), rib_size conf r.direction r.rib good.rib, direction_size r.direction, peer_size r.peer good.peer, length-append {A = ℕ})

-- ---- conditions

path_size : (part : PathPart) → length (path_word part) ≤ 10
path_size parts.Any = omega arith
path_size parts.Source = omega arith
path_size parts.Transit = omega arith
path_size parts.Peer = omega arith

ovs_size : (ovs : Ovs) → length (ovs_word ovs) ≤ 9
ovs_size Valid = omega arith
ovs_size Invalid = omega arith
ovs_size NotFound = omega arith

family_size : (family : Family) → length (family_word family) ≤ 5
family_size V4 = omega arith
family_size V6 = omega arith

condition_size : (conf : Conf) (condition : Condition) → IsCondition conf condition → length (condition_text conf condition) ≤ 70
unfolding condition_text
condition_size conf (conditions.Prefix range) good = omega (arith, range_size range good)
condition_size conf (conditions.PrefixSet set) good = omega (arith, good.short)
condition_size conf (conditions.PrefixSetOrLonger set) good = omega (arith, good.short, length-append {A = ℕ})
condition_size conf (conditions.PathNumber part asn) good = omega (arith, path_size part, number_digits (least_as part) asn good, length-append {A = ℕ})
condition_size conf (conditions.PathSet part set) good = omega (arith, path_size part, good.short, length-append {A = ℕ})
condition_size conf (conditions.OriginSet set) good = omega (arith, good.short)
condition_size conf (conditions.Ovs ovs) good = omega (arith, ovs_size ovs)
condition_size conf (conditions.Community pattern) good = omega (arith, pattern_size pattern good)
condition_size conf (conditions.LargeCommunity pattern) good = omega (arith, large_pattern_size pattern good)
condition_size conf (conditions.MaxAsLen most) good = omega (arith, four_digits most (omega (arith, good.most)))
condition_size conf (conditions.NextHop address) good = omega (arith, addr_size address)
condition_size conf (conditions.Family family) good = omega (arith, family_size family)

behind_size : (conf : Conf) (condition : Condition) → IsCondition conf condition → length (condition_behind conf condition) ≤ 71
behind_size conf condition good = omega (arith, condition_size conf condition good)

pub rule_size : (conf : Conf) (r : Rule) → IsRule conf r → length (rule_line conf r) ≤ 2150
unfolding rule_line
rule_size conf r good =
    let behind : length (flat_map (condition_behind conf) r.conditions) ≤ 71 * length r.conditions =
    each_size (condition_behind conf) (IsCondition conf) 71 r.conditions (behind_size conf) good.conditions in
    omega (arith, head_size conf r good, behind, good.few, set_behind_size (place_of r.direction) r.set good.set, length-append {A = ℕ})
