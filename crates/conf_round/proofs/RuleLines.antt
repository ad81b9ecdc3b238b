-- The neighbours, groups and rules of a canonical text as lines of tokens, and the whole text.
use Rattle.std.proofs.Common.{◌≡◌, ◌∙◌, ℕ, Bool, true, false, List, [], ◌∷◌, ◌++◌, append_assoc, map, flat_map, filter, codes, decimal, drop, Option, Some, None, refl, ap, sym}
use Rattle.net_base.specs.declared.addr.Addr.{Addr}
use Rattle.net_base.specs.Addr.{addr_text}
use Rattle.net_base.specs.Prefix.{prefix_text}
use Rattle.conf_tree.specs.declared.conf.Conf.{Conf}
use Rattle.conf_tree.specs.declared.neighbour.Neighbour.{Neighbour}
use Rattle.conf_tree.specs.declared.rule.Item.{Item}
use Rattle.conf_tree.specs.declared.rule.Peer.{Peer}
use Rattle.conf_tree.specs.declared.rule.Peer.TheVariants as peers
use Rattle.conf_tree.specs.declared.rule.Condition.{Condition}
use Rattle.conf_tree.specs.declared.rule.Condition.TheVariants as conditions
use Rattle.conf_tree.specs.declared.rule.Rule.{Rule}
use Rattle.conf_tree.specs.Canonical.{yes_no, if_set, if_given, quoted, prefix_set_name, as_set_name, origin_set_name, rib_name, pattern_text, large_pattern_text, set_behind, remote_as_line, local_address_line, descr_line, port_line, multihop_line, way_options, link_options, unicast, hold_options, families_options, capability_options, open_options, max_prefix_line, rib_option, set_option, route_options, neighbour_text, is_alone, is_of_group, group_names, group_text, action_word, direction_word, peer_text, path_word, ovs_word, family_word, condition_text, condition_behind, rib_behind, rule_head, rule_line, rib_line, network_line, neighbours_text, canonical}
use Rattle.conf_round.proofs.Pieces.{Piece, line_text, lines_text}
use Rattle.conf_round.proofs.Lines.{pieces_text, line_of_pieces, pieces_append, lines_map, lines_flat, both_lines, line_and_lines, first, tabbed, word, quote, opening}
use Rattle.conf_round.proofs.ItemLines.{set_pieces, behind_pieces, behind_is}
use Rattle.conf_round.proofs.ItemLines.{set_is as set_pieces_is}
use Rattle.conf_round.proofs.SetLines.{given_lines, given_is, set_lines, set_is, range_rest, range_is, block_lines, block_is, globals_lines, globals_are, rib_pieces, rib_is, sets_lines, sets_are, network_pieces, network_is}

-- ---- options

abbrev pub remote_as_pieces : ℕ → List Piece
remote_as_pieces asn = tabbed (codes "remote-as") ∷ word (decimal asn) ∷ []

remote_as_is : (asn : ℕ) → remote_as_line asn ≡ line_text (remote_as_pieces asn) []
unfolding remote_as_line
remote_as_is asn = refl

abbrev pub local_address_pieces : Addr → List Piece
local_address_pieces address = tabbed (codes "local-address") ∷ word (addr_text address) ∷ []

local_address_is : (address : Addr) → local_address_line address ≡ line_text (local_address_pieces address) []
local_address_is address = refl

abbrev pub descr_pieces : List ℕ → List Piece
descr_pieces text = tabbed (codes "descr") ∷ quote text ∷ []

descr_is : (text : List ℕ) → descr_line text ≡ line_text (descr_pieces text) []
descr_is text = refl

abbrev pub port_pieces : ℕ → List Piece
port_pieces port = tabbed (codes "port") ∷ word (decimal port) ∷ []

port_is : (port : ℕ) → port_line port ≡ line_text (port_pieces port) []
unfolding port_line
port_is port = refl

abbrev pub multihop_pieces : ℕ → List Piece
multihop_pieces hops = tabbed (codes "multihop") ∷ word (decimal hops) ∷ []

multihop_is : (hops : ℕ) → multihop_line hops ≡ line_text (multihop_pieces hops) []
multihop_is hops = refl

abbrev pub way_lines : Neighbour → List (List Piece)
way_lines n = set_lines n.passive (tabbed (codes "passive") ∷ []) ++ (set_lines n.down (tabbed (codes "down") ∷ []) ++ given_lines multihop_pieces n.multihop)

way_is : (n : Neighbour) → way_options n ≡ lines_text (way_lines n)
unfolding way_options
way_is n =
    let hops : List (List Piece) = given_lines multihop_pieces n.multihop in
    let down : List (List Piece) = set_lines n.down (tabbed (codes "down") ∷ []) in
    both_lines _ _ (set_lines n.passive (tabbed (codes "passive") ∷ [])) (down ++ hops) (set_is n.passive (codes "\tpassive\n") (tabbed (codes "passive") ∷ []) refl)
    (both_lines _ _ down hops (set_is n.down (codes "\tdown\n") (tabbed (codes "down") ∷ []) refl) (given_is multihop_line multihop_pieces multihop_is n.multihop))

abbrev pub link_lines : Neighbour → List (List Piece)
link_lines n =
    remote_as_pieces n.remote_as ∷ (given_lines local_address_pieces n.local_address ++ (given_lines descr_pieces n.description ++ (port_pieces n.port ∷ way_lines n)))

link_is : (n : Neighbour) → link_options n ≡ lines_text (link_lines n)
unfolding link_options
link_is n =
    let port : List (List Piece) = port_pieces n.port ∷ way_lines n in
    let descr : List (List Piece) = given_lines descr_pieces n.description ++ port in
    let local : List (List Piece) = given_lines local_address_pieces n.local_address ++ descr in
    line_and_lines _ _ (remote_as_pieces n.remote_as) local (remote_as_is n.remote_as)
    (both_lines _ _ (given_lines local_address_pieces n.local_address) descr (given_is local_address_line local_address_pieces local_address_is n.local_address)
    (both_lines _ _ (given_lines descr_pieces n.description) port (given_is descr_line descr_pieces descr_is n.description)
    (line_and_lines _ _ (port_pieces n.port) (way_lines n) (port_is n.port) (way_is n))))

abbrev pub hold_lines : ℕ → ℕ → List (List Piece)
hold_lines hold least = (tabbed (codes "holdtime") ∷ word (decimal hold) ∷ []) ∷ (tabbed (codes "holdtime") ∷ word (codes "min") ∷ word (decimal least) ∷ []) ∷ []

hold_is : (hold least : ℕ) → hold_options hold least ≡ lines_text (hold_lines hold least)
hold_is hold least = refl

abbrev pub announce_pieces : List ℕ → List ℕ → List Piece
announce_pieces what how = tabbed (codes "announce") ∷ word what ∷ word how ∷ []

abbrev pub families_lines : Bool → Bool → List (List Piece)
families_lines v4 v6 = announce_pieces (codes "IPv4") (unicast v4) ∷ announce_pieces (codes "IPv6") (unicast v6) ∷ []

families_are : (v4 v6 : Bool) → families_options v4 v6 ≡ lines_text (families_lines v4 v6)
families_are true true = refl
families_are true false = refl
families_are false true = refl
families_are false false = refl

abbrev pub capability_lines : Bool → Bool → List (List Piece)
capability_lines refresh as_4byte = announce_pieces (codes "refresh") (yes_no refresh) ∷ announce_pieces (codes "as-4byte") (yes_no as_4byte) ∷ []

capabilities_are : (refresh as_4byte : Bool) → capability_options refresh as_4byte ≡ lines_text (capability_lines refresh as_4byte)
capabilities_are true true = refl
capabilities_are true false = refl
capabilities_are false true = refl
capabilities_are false false = refl

abbrev pub open_lines : Neighbour → List (List Piece)
open_lines n = hold_lines n.hold n.hold_min ++ (families_lines n.announce_v4 n.announce_v6 ++ capability_lines n.announce_refresh n.announce_as_4byte)

open_is : (n : Neighbour) → open_options n ≡ lines_text (open_lines n)
unfolding open_options
open_is n =
    let capabilities : List (List Piece) = capability_lines n.announce_refresh n.announce_as_4byte in
    let families : List (List Piece) = families_lines n.announce_v4 n.announce_v6 in
    both_lines (hold_options n.hold n.hold_min) (families_options n.announce_v4 n.announce_v6 ++ capability_options n.announce_refresh n.announce_as_4byte) (hold_lines n.hold n.hold_min) (families ++ capabilities) (hold_is n.hold n.hold_min)
    (both_lines (families_options n.announce_v4 n.announce_v6) (capability_options n.announce_refresh n.announce_as_4byte) families capabilities (families_are n.announce_v4 n.announce_v6) (capabilities_are n.announce_refresh n.announce_as_4byte))

abbrev pub max_prefix_pieces : ℕ → List Piece
max_prefix_pieces most = tabbed (codes "max-prefix") ∷ word (decimal most) ∷ []

max_prefix_is : (most : ℕ) → max_prefix_line most ≡ line_text (max_prefix_pieces most) []
max_prefix_is most = refl

abbrev pub rib_option_pieces : Conf → ℕ → List Piece
rib_option_pieces conf rib = tabbed (codes "rib") ∷ word (rib_name conf rib) ∷ []

rib_option_is : (conf : Conf) (rib : ℕ) → rib_option conf rib ≡ line_text (rib_option_pieces conf rib) []
unfolding rib_option
rib_option_is conf rib = refl

-- the set of an option: its first word stands behind a tab
abbrev pub tab_first : List Piece → List Piece
tab_first [] = []
tab_first (p ∷ ps) = tabbed p.text ∷ ps

abbrev pub set_option_lines : List Item → List (List Piece)
set_option_lines [] = []
set_option_lines (item ∷ set) = tab_first (set_pieces (item ∷ set)) ∷ []

set_option_is : (set : List Item) → set_option set ≡ lines_text (set_option_lines set)
set_option_is [] = refl
set_option_is (item ∷ set) = sym (ap (λ (l : List ℕ). 9 ∷ (drop 1 l)) (line_of_pieces (set_pieces (item ∷ set)) [] ∙ set_pieces_is item set (10 ∷ [])))

abbrev pub route_lines : Conf → Neighbour → List (List Piece)
route_lines conf n = given_lines max_prefix_pieces n.max_prefix ++ (rib_option_pieces conf n.rib ∷ set_option_lines n.set)

route_is : (conf : Conf) (n : Neighbour) → route_options conf n ≡ lines_text (route_lines conf n)
unfolding route_options
route_is conf n =
    both_lines _ _ (given_lines max_prefix_pieces n.max_prefix) (rib_option_pieces conf n.rib ∷ set_option_lines n.set) (given_is max_prefix_line max_prefix_pieces max_prefix_is n.max_prefix)
    (line_and_lines _ _ (rib_option_pieces conf n.rib) (set_option_lines n.set) (rib_option_is conf n.rib) (set_option_is n.set))

-- ---- neighbours and groups

abbrev pub option_lines : Conf → Neighbour → List (List Piece)
option_lines conf n = link_lines n ++ (open_lines n ++ route_lines conf n)

abbrev pub neighbour_lines : Conf → Neighbour → List (List Piece)
neighbour_lines conf n = block_lines (first (codes "neighbor") ∷ word (addr_text n.address) ∷ opening ∷ []) (option_lines conf n)

options_are : (conf : Conf) (n : Neighbour) → link_options n ++ (open_options n ++ route_options conf n) ≡ lines_text (option_lines conf n)
options_are conf n = both_lines _ _ (link_lines n) (open_lines n ++ route_lines conf n) (link_is n) (both_lines _ _ (open_lines n) (route_lines conf n) (open_is n) (route_is conf n))

regrouped : (a b c l o r e : List ℕ) → a ++ (b ++ (c ++ (l ++ (o ++ (r ++ e))))) ≡ (a ++ (b ++ c)) ++ ((l ++ (o ++ r)) ++ e)
regrouped a b c l o r e = simp append_assoc

neighbour_is : (conf : Conf) (n : Neighbour) → neighbour_text conf n ≡ lines_text (neighbour_lines conf n)
unfolding neighbour_text
neighbour_is conf n =
    regrouped (codes "neighbor ") (addr_text n.address) (codes " {\n") (link_options n) (open_options n) (route_options conf n) (codes "}\n")
    ∙ block_is (codes "neighbor " ++ (addr_text n.address ++ codes " {\n")) (link_options n ++ (open_options n ++ route_options conf n)) (first (codes "neighbor") ∷ word (addr_text n.address) ∷ opening ∷ []) (option_lines conf n) refl (options_are conf n)

abbrev pub group_lines : Conf → List ℕ → List (List Piece)
group_lines conf name = block_lines (first (codes "group") ∷ quote name ∷ opening ∷ []) (flat_map (neighbour_lines conf) (filter (is_of_group name) conf.neighbours))

regrouped_head : (a b c i e : List ℕ) → a ++ (b ++ (c ++ (i ++ e))) ≡ (a ++ (b ++ c)) ++ (i ++ e)
regrouped_head a b c i e = simp append_assoc

group_is : (conf : Conf) (name : List ℕ) → group_text conf name ≡ lines_text (group_lines conf name)
unfolding group_text
group_is conf name =
    let members : List Neighbour = filter (is_of_group name) conf.neighbours in
    regrouped_head (codes "group ") (quoted name) (codes " {\n") (flat_map (neighbour_text conf) members) (codes "}\n")
    ∙ block_is (codes "group " ++ (quoted name ++ codes " {\n")) (flat_map (neighbour_text conf) members) (first (codes "group") ∷ quote name ∷ opening ∷ []) (flat_map (neighbour_lines conf) members) refl
    (lines_flat (neighbour_text conf) (neighbour_lines conf) (neighbour_is conf) members)

abbrev pub neighbours_lines : Conf → List (List Piece)
neighbours_lines conf = flat_map (neighbour_lines conf) (filter is_alone conf.neighbours) ++ flat_map (group_lines conf) (group_names conf.neighbours)

neighbours_are : (conf : Conf) → neighbours_text conf ≡ lines_text (neighbours_lines conf)
unfolding neighbours_text
neighbours_are conf =
    both_lines _ _ (flat_map (neighbour_lines conf) (filter is_alone conf.neighbours)) (flat_map (group_lines conf) (group_names conf.neighbours))
    (lines_flat (neighbour_text conf) (neighbour_lines conf) (neighbour_is conf) (filter is_alone conf.neighbours)) (lines_flat (group_text conf) (group_lines conf) (group_is conf) (group_names conf.neighbours))

-- ---- rules

abbrev pub peer_pieces : Peer → List Piece
peer_pieces peers.Any = word (codes "any") ∷ []
peer_pieces peers.Ebgp = word (codes "ebgp") ∷ []
peer_pieces peers.Ibgp = word (codes "ibgp") ∷ []
peer_pieces (peers.Address address) = word (addr_text address) ∷ []
peer_pieces (peers.Group name) = word (codes "group") ∷ quote name ∷ []
peer_pieces (peers.As asn) = word (codes "AS") ∷ word (decimal asn) ∷ []

peer_is : (peer : Peer) (rest : List ℕ) → pieces_text (peer_pieces peer) rest ≡ 32 ∷ (peer_text peer ++ rest)
unfolding peer_text
peer_is peers.Any rest = refl
peer_is peers.Ebgp rest = refl
peer_is peers.Ibgp rest = refl
peer_is (peers.Address address) rest = refl
peer_is (peers.Group name) rest = refl
peer_is (peers.As asn) rest = refl

abbrev pub condition_pieces : Conf → Condition → List Piece
condition_pieces conf (conditions.Prefix range) = word (codes "prefix") ∷ word (prefix_text range.prefix) ∷ range_rest range
condition_pieces conf (conditions.PrefixSet set) = word (codes "prefix-set") ∷ word (prefix_set_name conf set.at) ∷ []
condition_pieces conf (conditions.PrefixSetOrLonger set) = word (codes "prefix-set") ∷ word (prefix_set_name conf set.at) ∷ word (codes "or-longer") ∷ []
condition_pieces conf (conditions.PathNumber part asn) = word (path_word part) ∷ word (decimal asn) ∷ []
condition_pieces conf (conditions.PathSet part set) = word (path_word part) ∷ word (codes "as-set") ∷ word (as_set_name conf set.at) ∷ []
condition_pieces conf (conditions.OriginSet set) = word (codes "origin-set") ∷ word (origin_set_name conf set.at) ∷ []
condition_pieces conf (conditions.Ovs ovs) = word (codes "ovs") ∷ word (ovs_word ovs) ∷ []
condition_pieces conf (conditions.Community pattern) = word (codes "community") ∷ word (pattern_text pattern) ∷ []
condition_pieces conf (conditions.LargeCommunity pattern) = word (codes "large-community") ∷ word (large_pattern_text pattern) ∷ []
condition_pieces conf (conditions.MaxAsLen most) = word (codes "max-as-len") ∷ word (decimal most) ∷ []
condition_pieces conf (conditions.NextHop address) = word (codes "nexthop") ∷ word (addr_text address) ∷ []
condition_pieces conf (conditions.Family family) = word (family_word family) ∷ []

regrouped_two : (a b rest : List ℕ) → a ++ (b ++ rest) ≡ (a ++ b) ++ rest
regrouped_two a b rest = sym (append_assoc a b rest)

regrouped_three : (a b c rest : List ℕ) → a ++ (b ++ (c ++ rest)) ≡ (a ++ (b ++ c)) ++ rest
regrouped_three a b c rest = simp append_assoc

condition_is : (conf : Conf) (condition : Condition) (rest : List ℕ) → pieces_text (condition_pieces conf condition) rest ≡ condition_behind conf condition ++ rest
unfolding condition_text
condition_is conf (conditions.Prefix range) rest = ap (λ (l : List ℕ). codes " prefix " ++ l) (range_is range rest)
condition_is conf (conditions.PrefixSet set) rest = refl
condition_is conf (conditions.PrefixSetOrLonger set) rest = regrouped_three (codes " prefix-set ") (prefix_set_name conf set.at) (codes " or-longer") rest
condition_is conf (conditions.PathNumber part asn) rest = ap (λ (l : List ℕ). 32 ∷ l) (regrouped_three (path_word part) (codes " ") (decimal asn) rest)
condition_is conf (conditions.PathSet part set) rest = ap (λ (l : List ℕ). 32 ∷ l) (regrouped_three (path_word part) (codes " as-set ") (as_set_name conf set.at) rest)
condition_is conf (conditions.OriginSet set) rest = refl
condition_is conf (conditions.Ovs ovs) rest = refl
condition_is conf (conditions.Community pattern) rest = refl
condition_is conf (conditions.LargeCommunity pattern) rest = refl
condition_is conf (conditions.MaxAsLen most) rest = refl
condition_is conf (conditions.NextHop address) rest = refl
condition_is conf (conditions.Family family) rest = refl

abbrev pub conditions_pieces : Conf → List Condition → List Piece
conditions_pieces conf [] = []
conditions_pieces conf (condition ∷ others) = condition_pieces conf condition ++ conditions_pieces conf others

conditions_are : (conf : Conf) (cs : List Condition) (rest : List ℕ) → pieces_text (conditions_pieces conf cs) rest ≡ flat_map (condition_behind conf) cs ++ rest
conditions_are conf [] rest = refl
conditions_are conf (c ∷ cs) rest =
    pieces_append (condition_pieces conf c) (conditions_pieces conf cs) rest ∙ condition_is conf c (pieces_text (conditions_pieces conf cs) rest)
    ∙ ap (λ (l : List ℕ). condition_behind conf c ++ l) (conditions_are conf cs rest)
    ∙ regrouped_two (condition_behind conf c) (flat_map (condition_behind conf) cs) rest

abbrev pub quick_pieces : Bool → List Piece
quick_pieces true = word (codes "quick") ∷ []
quick_pieces false = []

quick_is : (quick : Bool) (rest : List ℕ) → pieces_text (quick_pieces quick) rest ≡ if_set quick (codes " quick") ++ rest
quick_is true rest = refl
quick_is false rest = refl

abbrev pub rule_rib_pieces : Conf → Option ℕ → List Piece
rule_rib_pieces conf None = []
rule_rib_pieces conf (Some number) = word (codes "rib") ∷ word (rib_name conf number) ∷ []

rule_rib_is : (conf : Conf) (rib : Option ℕ) (rest : List ℕ) → pieces_text (rule_rib_pieces conf rib) rest ≡ if_given (rib_behind conf) rib ++ rest
unfolding rib_behind
rule_rib_is conf None rest = refl
rule_rib_is conf (Some number) rest = refl

regrouped_rule : (a q r d p rest : List ℕ) → a ++ (q ++ (r ++ (32 ∷ (d ++ (32 ∷ (p ++ rest)))))) ≡ (a ++ (q ++ (r ++ (codes " " ++ (d ++ (codes " " ++ p)))))) ++ rest
regrouped_rule a q r d p rest = simp append_assoc

-- what stands behind the action, up to the peer
abbrev pub head_rest : Conf → Rule → List Piece
head_rest conf r = quick_pieces r.quick ++ (rule_rib_pieces conf r.rib ++ (word (direction_word r.direction) ∷ peer_pieces r.peer))

abbrev pub rule_pieces : Conf → Rule → List Piece
rule_pieces conf r = first (action_word r.action) ∷ (head_rest conf r ++ (conditions_pieces conf r.conditions ++ behind_pieces r.set))

head_rest_is : (conf : Conf) (r : Rule) (rest : List ℕ) → action_word r.action ++ pieces_text (head_rest conf r) rest ≡ rule_head conf r ++ rest
unfolding rule_head
head_rest_is conf r rest =
    let quick : List ℕ = if_set r.quick (codes " quick") in
    let rib : List ℕ = if_given (rib_behind conf) r.rib in
    let peer : List Piece = word (direction_word r.direction) ∷ peer_pieces r.peer in
    ap (λ (l : List ℕ). action_word r.action ++ l)
    (pieces_append (quick_pieces r.quick) (rule_rib_pieces conf r.rib ++ peer) rest ∙ quick_is r.quick (pieces_text (rule_rib_pieces conf r.rib ++ peer) rest)
    ∙ ap (λ (l : List ℕ). quick ++ l) (pieces_append (rule_rib_pieces conf r.rib) peer rest ∙ rule_rib_is conf r.rib (pieces_text peer rest)
    ∙ ap (λ (l : List ℕ). rib ++ (32 ∷ (direction_word r.direction ++ l))) (peer_is r.peer rest)))
    ∙ regrouped_rule (action_word r.action) quick rib (direction_word r.direction) (peer_text r.peer) rest

rule_is : (conf : Conf) (r : Rule) → rule_line conf r ≡ line_text (rule_pieces conf r) []
unfolding rule_line
rule_is conf r =
    let behind : List Piece = conditions_pieces conf r.conditions ++ behind_pieces r.set in
    let text : List ℕ = flat_map (condition_behind conf) r.conditions ++ (set_behind r.set ++ codes "\n") in
    sym (line_of_pieces (rule_pieces conf r) []
    ∙ ap (λ (l : List ℕ). action_word r.action ++ l) (pieces_append (head_rest conf r) behind (10 ∷ []))
    ∙ head_rest_is conf r (pieces_text behind (10 ∷ []))
    ∙ ap (λ (l : List ℕ). rule_head conf r ++ l) (pieces_append (conditions_pieces conf r.conditions) (behind_pieces r.set) (10 ∷ []) ∙ conditions_are conf r.conditions (pieces_text (behind_pieces r.set) (10 ∷ []))
    ∙ ap (λ (l : List ℕ). flat_map (condition_behind conf) r.conditions ++ l) (behind_is r.set (10 ∷ []))))

-- ---- the whole text

abbrev pub canonical_lines : Conf → List (List Piece)
canonical_lines conf =
    globals_lines conf ++ (map rib_pieces conf.ribs ++ (sets_lines conf ++ (map network_pieces conf.networks ++ (neighbours_lines conf ++ map (rule_pieces conf) conf.rules))))

-- the canonical text is the text of these lines
pub canonical_is : (conf : Conf) → canonical conf ≡ lines_text (canonical_lines conf)
unfolding canonical
canonical_is conf =
    let rules : List (List Piece) = map (rule_pieces conf) conf.rules in
    let neighbours : List (List Piece) = neighbours_lines conf ++ rules in
    let networks : List (List Piece) = map network_pieces conf.networks ++ neighbours in
    let sets : List (List Piece) = sets_lines conf ++ networks in
    both_lines _ _ (globals_lines conf) (map rib_pieces conf.ribs ++ sets) (globals_are conf)
    (both_lines _ _ (map rib_pieces conf.ribs) sets (lines_map rib_line rib_pieces rib_is conf.ribs)
    (both_lines _ _ (sets_lines conf) networks (sets_are conf)
    (both_lines _ _ (map network_pieces conf.networks) neighbours (lines_map network_line network_pieces network_is conf.networks)
    (both_lines _ _ (neighbours_lines conf) rules (neighbours_are conf) (lines_map (rule_line conf) (rule_pieces conf) (rule_is conf) conf.rules)))))
