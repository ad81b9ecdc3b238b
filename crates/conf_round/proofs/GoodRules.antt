-- The lines of neighbours, groups and rules are good where their values can be written, and so the tokens of a canonical
-- text are those that were printed.
use Rattle.std.proofs.Common.{◌≡◌, ◌∙◌, ℕ, ◌≤◌, Bool, true, false, List, [], ◌∷◌, ◌++◌, length, map, flat_map, filter, codes, decimal, Option, Some, None, Ok, refl, ap, subst, arith}
use Rattle.net_base.specs.declared.addr.Family.{Family}
use Rattle.net_base.specs.declared.addr.Family.TheVariants.{V4, V6}
use Rattle.net_base.specs.declared.addr.Addr.{Addr}
use Rattle.net_base.specs.declared.roa.Ovs.{Ovs}
use Rattle.net_base.specs.declared.roa.Ovs.TheVariants.{Valid, Invalid, NotFound}
use Rattle.net_base.specs.Addr.{addr_text}
use Rattle.net_base.specs.Prefix.{prefix_text}
use Rattle.conf_tree.specs.declared.token.TokenKind.TheVariants.{Word}
use Rattle.conf_tree.specs.declared.conf.Conf.{Conf}
use Rattle.conf_tree.specs.declared.draft.SetPlace.TheVariants as places
use Rattle.conf_tree.specs.declared.neighbour.Neighbour.{Neighbour}
use Rattle.conf_tree.specs.declared.rule.Item.{Item}
use Rattle.conf_tree.specs.declared.rule.Action.{Action}
use Rattle.conf_tree.specs.declared.rule.Action.TheVariants.{Allow, Deny, Match}
use Rattle.conf_tree.specs.declared.rule.Direction.{Direction}
use Rattle.conf_tree.specs.declared.rule.Direction.TheVariants.{From, To}
use Rattle.conf_tree.specs.declared.rule.PathPart.{PathPart}
use Rattle.conf_tree.specs.declared.rule.PathPart.TheVariants as parts
use Rattle.conf_tree.specs.declared.rule.Peer.{Peer}
use Rattle.conf_tree.specs.declared.rule.Peer.TheVariants as peers
use Rattle.conf_tree.specs.declared.rule.Condition.{Condition}
use Rattle.conf_tree.specs.declared.rule.Condition.TheVariants as conditions
use Rattle.conf_tree.specs.declared.rule.Rule.{Rule}
use Rattle.conf_tree.specs.RuleReading.{place_of}
use Rattle.conf_tree.specs.Tokens.{tokens}
use Rattle.conf_tree.specs.Canonical.{yes_no, unicast, rib_name, prefix_set_name, as_set_name, origin_set_name, pattern_text, large_pattern_text, is_alone, is_of_group, group_names, action_word, direction_word, path_word, ovs_word, family_word, canonical}
use Rattle.conf_tree.proofs.Each.{each_filter}
use Rattle.conf_tree.proofs.GroupNames.{each_group}
use Rattle.conf_tree.specs.Readable.{Each, IfThere, IsName, IsQuotedText, IsGroupName, IsWithin, IsHold, IsItem, IsRib, IsAs, IsNetwork, IsNeighbour, IsPeer, least_as, IsCondition, IsRuleRib, IsRule, IsReadable}
use Rattle.conf_round.proofs.Pieces.{Piece, IsText, lines_text}
use Rattle.conf_round.proofs.Words.{keyword, addr_word}
use Rattle.conf_round.proofs.Lines.{AreFollowing, IsGoodLine, AreGoodLines, good_both, following_both, good_lines, first, tabbed, word, quote, opening, with_word, with_quote, with_opening, from_first, from_tabbed}
use Rattle.conf_round.proofs.ItemLines.{pattern_word, large_pattern_word, set_follows, behind_pieces, behind_follows}
use Rattle.conf_round.proofs.SetLines.{given_lines, set_lines, range_rest, globals_lines, rib_pieces, sets_lines, network_pieces}
use Rattle.conf_round.proofs.RuleLines.{remote_as_pieces, local_address_pieces, descr_pieces, port_pieces, multihop_pieces, way_lines, link_lines, hold_lines, announce_pieces, families_lines, capability_lines, open_lines, max_prefix_pieces, rib_option_pieces, set_option_lines, route_lines, option_lines, neighbour_lines, group_lines, neighbours_lines, peer_pieces, condition_pieces, conditions_pieces, quick_pieces, rule_rib_pieces, head_rest, rule_pieces, canonical_lines, canonical_is}
use Rattle.conf_round.proofs.GoodLines.{quoted_is, group_is, name_is, within_is, hold_is, prefix_is, small_part, small_items, good_map, good_flat, good_given, good_set, good_block, globals_good, rib_good, range_follows, sets_good, network_good}
use Rattle.conf_round.proofs.Texts.{lines_tokens, text_read_back}

-- ---- options

-- a word and its value, behind a tab
tab_two : (b : ℕ) (key value : List ℕ) → IsText Word (b ∷ key) → IsText Word value → IsGoodLine (tabbed (b ∷ key) ∷ word value ∷ [])
tab_two b key value k v = from_tabbed (b ∷ key) (word value ∷ []) k (with_word value [] v tt)

remote_as_good : (asn : ℕ) → IsAs asn → IsGoodLine (remote_as_pieces asn)
remote_as_good asn h = tab_two 114 (codes "emote-as") (decimal asn) (keyword 114 (codes "emote-as") refl) (within_is 1 4294967295 asn (omega arith) h)

local_address_good : (address : Addr) → Unit {0} → IsGoodLine (local_address_pieces address)
local_address_good address h = tab_two 108 (codes "ocal-address") (addr_text address) (keyword 108 (codes "ocal-address") refl) (addr_word address)

descr_good : (text : List ℕ) → IsQuotedText text → IsGoodLine (descr_pieces text)
descr_good text h = from_tabbed (codes "descr") (quote text ∷ []) (keyword 100 (codes "escr") refl) (with_quote text [] (quoted_is text h) tt)

port_good : (port : ℕ) → IsWithin 1 65535 port → IsGoodLine (port_pieces port)
port_good port h = tab_two 112 (codes "ort") (decimal port) (keyword 112 (codes "ort") refl) (within_is 1 65535 port (omega arith) h)

multihop_good : (hops : ℕ) → IsWithin 1 255 hops → IsGoodLine (multihop_pieces hops)
multihop_good hops h = tab_two 109 (codes "ultihop") (decimal hops) (keyword 109 (codes "ultihop") refl) (within_is 1 255 hops (omega arith) h)

any_there : {A : Type 0} (value : Option A) → IfThere (λ _. Unit {0}) value
any_there None = tt
any_there (Some value) = tt

way_good : (n : Neighbour) → IfThere (IsWithin 1 255) n.multihop → AreGoodLines (way_lines n)
way_good n h =
    let hops : List (List Piece) = given_lines multihop_pieces n.multihop in
    good_both (set_lines n.passive (tabbed (codes "passive") ∷ [])) (set_lines n.down (tabbed (codes "down") ∷ []) ++ hops) (good_set n.passive (tabbed (codes "passive") ∷ []) (from_tabbed (codes "passive") [] (keyword 112 (codes "assive") refl) tt))
    (good_both (set_lines n.down (tabbed (codes "down") ∷ [])) hops (good_set n.down (tabbed (codes "down") ∷ []) (from_tabbed (codes "down") [] (keyword 100 (codes "own") refl) tt))
    (good_given (IsWithin 1 255) multihop_pieces multihop_good n.multihop h))

link_good : (conf : Conf) (n : Neighbour) → IsNeighbour conf n → AreGoodLines (link_lines n)
link_good conf n h =
    let port : List (List Piece) = port_pieces n.port ∷ way_lines n in
    let good : AreGoodLines port = (port_good n.port h.port, way_good n h.multihop) in (
      remote_as_good n.remote_as h.remote_as,
      good_both (given_lines local_address_pieces n.local_address) (given_lines descr_pieces n.description ++ port) (good_given (λ _. Unit {0}) local_address_pieces local_address_good n.local_address (any_there n.local_address))
          (good_both (given_lines descr_pieces n.description) port (good_given IsQuotedText descr_pieces descr_good n.description h.description) good),
    )

hold_good : (hold least : ℕ) → IsHold hold → IsWithin 3 65535 least → AreGoodLines (hold_lines hold least)
hold_good hold least h l = (
  tab_two 104 (codes "oldtime") (decimal hold) (keyword 104 (codes "oldtime") refl) (hold_is hold h),
  (
    from_tabbed (codes "holdtime") (word (codes "min") ∷ word (decimal least) ∷ []) (keyword 104 (codes "oldtime") refl)
        (with_word (codes "min") (word (decimal least) ∷ []) (keyword 109 (codes "in") refl) (with_word (decimal least) [] (within_is 3 65535 least (omega arith) l) tt)),
    tt,
  ),
)

announce_good : (what how : List ℕ) → IsText Word what → IsText Word how → IsGoodLine (announce_pieces what how)
announce_good what how w h = from_tabbed (codes "announce") (word what ∷ word how ∷ []) (keyword 97 (codes "nnounce") refl) (with_word what (word how ∷ []) w (with_word how [] h tt))

unicast_is : (flag : Bool) → IsText Word (unicast flag)
unicast_is true = keyword 117 (codes "nicast") refl
unicast_is false = keyword 110 (codes "one") refl

yes_no_is : (flag : Bool) → IsText Word (yes_no flag)
yes_no_is true = keyword 121 (codes "es") refl
yes_no_is false = keyword 110 (codes "o") refl

open_good : (conf : Conf) (n : Neighbour) → IsNeighbour conf n → AreGoodLines (open_lines n)
open_good conf n h =
    let families : AreGoodLines (families_lines n.announce_v4 n.announce_v6) = (
      announce_good (codes "IPv4") (unicast n.announce_v4) (keyword 73 (codes "Pv4") refl) (unicast_is n.announce_v4),
      (announce_good (codes "IPv6") (unicast n.announce_v6) (keyword 73 (codes "Pv6") refl) (unicast_is n.announce_v6), tt),
    ) in
    let capabilities : AreGoodLines (capability_lines n.announce_refresh n.announce_as_4byte) = (
      announce_good (codes "refresh") (yes_no n.announce_refresh) (keyword 114 (codes "efresh") refl) (yes_no_is n.announce_refresh),
      (announce_good (codes "as-4byte") (yes_no n.announce_as_4byte) (keyword 97 (codes "s-4byte") refl) (yes_no_is n.announce_as_4byte), tt),
    ) in
    good_both (hold_lines n.hold n.hold_min) (families_lines n.announce_v4 n.announce_v6 ++ capability_lines n.announce_refresh n.announce_as_4byte) (hold_good n.hold n.hold_min h.hold h.hold_min)
    (good_both (families_lines n.announce_v4 n.announce_v6) (capability_lines n.announce_refresh n.announce_as_4byte) families capabilities)

max_prefix_good : (most : ℕ) → IsWithin 1 4294967295 most → IsGoodLine (max_prefix_pieces most)
max_prefix_good most h = tab_two 109 (codes "ax-prefix") (decimal most) (keyword 109 (codes "ax-prefix") refl) (within_is 1 4294967295 most (omega arith) h)

rib_option_good : (conf : Conf) (rib : ℕ) → IsName (rib_name conf rib) → IsGoodLine (rib_option_pieces conf rib)
rib_option_good conf rib h = tab_two 114 (codes "ib") (rib_name conf rib) (keyword 114 (codes "ib") refl) (name_is (rib_name conf rib) h)

set_option_good : (set : List Item) → Each (IsItem places.Neighbour) set → AreGoodLines (set_option_lines set)
set_option_good [] h = tt
set_option_good (item ∷ set) h =
    let follows = set_follows item set (small_items places.Neighbour (item ∷ set) h) in
    ((((refl, tt), follows.0.1), follows.2), tt)

route_good : (conf : Conf) (n : Neighbour) → IsNeighbour conf n → AreGoodLines (route_lines conf n)
route_good conf n h =
    good_both (given_lines max_prefix_pieces n.max_prefix) (rib_option_pieces conf n.rib ∷ set_option_lines n.set) (good_given (IsWithin 1 4294967295) max_prefix_pieces max_prefix_good n.max_prefix h.max_prefix)
    (rib_option_good conf n.rib h.rib, set_option_good n.set h.set.0)

-- ---- neighbours and groups

neighbour_good : (conf : Conf) (n : Neighbour) → IsNeighbour conf n → AreGoodLines (neighbour_lines conf n)
neighbour_good conf n h =
    good_block (first (codes "neighbor") ∷ word (addr_text n.address) ∷ opening ∷ []) (option_lines conf n)
    (from_first (codes "neighbor") (word (addr_text n.address) ∷ opening ∷ []) (keyword 110 (codes "eighbor") refl) (with_word (addr_text n.address) (opening ∷ []) (addr_word n.address) (with_opening [] tt)))
    (good_both (link_lines n) (open_lines n ++ route_lines conf n) (link_good conf n h) (good_both (open_lines n) (route_lines conf n) (open_good conf n h) (route_good conf n h)))

group_good : (conf : Conf) → Each (IsNeighbour conf) conf.neighbours → (name : List ℕ) → IsGroupName name → AreGoodLines (group_lines conf name)
group_good conf ns name h =
    let members : List Neighbour = filter (is_of_group name) conf.neighbours in
    good_block (first (codes "group") ∷ quote name ∷ opening ∷ []) (flat_map (neighbour_lines conf) members)
    (from_first (codes "group") (quote name ∷ opening ∷ []) (keyword 103 (codes "roup") refl) (with_quote name (opening ∷ []) (group_is name h) (with_opening [] tt)))
    (good_flat (IsNeighbour conf) (neighbour_lines conf) (neighbour_good conf) members (each_filter (IsNeighbour conf) (is_of_group name) conf.neighbours ns))

neighbours_good : (conf : Conf) → Each (IsNeighbour conf) conf.neighbours → AreGoodLines (neighbours_lines conf)
neighbours_good conf ns =
    good_both (flat_map (neighbour_lines conf) (filter is_alone conf.neighbours)) (flat_map (group_lines conf) (group_names conf.neighbours))
    (good_flat (IsNeighbour conf) (neighbour_lines conf) (neighbour_good conf) (filter is_alone conf.neighbours) (each_filter (IsNeighbour conf) is_alone conf.neighbours ns))
    (good_flat IsGroupName (group_lines conf) (group_good conf ns) (group_names conf.neighbours) (each_group conf conf.neighbours ns))

-- ---- rules

one_word : (text : List ℕ) → IsText Word text → AreFollowing (word text ∷ [])
one_word text t = with_word text [] t tt

two_words : (first second : List ℕ) → IsText Word first → IsText Word second → AreFollowing (word first ∷ word second ∷ [])
two_words first second f s = with_word first (word second ∷ []) f (one_word second s)

peer_follows : (peer : Peer) → IsPeer peer → AreFollowing (peer_pieces peer)
peer_follows peers.Any h = one_word (codes "any") (keyword 97 (codes "ny") refl)
peer_follows peers.Ebgp h = one_word (codes "ebgp") (keyword 101 (codes "bgp") refl)
peer_follows peers.Ibgp h = one_word (codes "ibgp") (keyword 105 (codes "bgp") refl)
peer_follows (peers.Address address) h = one_word (addr_text address) (addr_word address)
peer_follows (peers.Group name) h = with_word (codes "group") (quote name ∷ []) (keyword 103 (codes "roup") refl) (with_quote name [] (group_is name h) tt)
peer_follows (peers.As asn) h = two_words (codes "AS") (decimal asn) (keyword 65 (codes "S") refl) (within_is 1 4294967295 asn (omega arith) h)

path_is : (part : PathPart) → IsText Word (path_word part)
path_is parts.Any = keyword 65 (codes "S") refl
path_is parts.Source = keyword 115 (codes "ource-as") refl
path_is parts.Transit = keyword 116 (codes "ransit-as") refl
path_is parts.Peer = keyword 112 (codes "eer-as") refl

ovs_is : (ovs : Ovs) → IsText Word (ovs_word ovs)
ovs_is Valid = keyword 118 (codes "alid") refl
ovs_is Invalid = keyword 105 (codes "nvalid") refl
ovs_is NotFound = keyword 110 (codes "ot-found") refl

family_is : (family : Family) → IsText Word (family_word family)
family_is V4 = keyword 105 (codes "net") refl
family_is V6 = keyword 105 (codes "net6") refl

condition_follows : (conf : Conf) (c : Condition) → IsCondition conf c → AreFollowing (condition_pieces conf c)
condition_follows conf (conditions.Prefix range) h =
    with_word (codes "prefix") (word (prefix_text range.prefix) ∷ range_rest range) (keyword 112 (codes "refix") refl) (with_word (prefix_text range.prefix) (range_rest range) (prefix_is range.prefix) (range_follows range h))
condition_follows conf (conditions.PrefixSet set) h = two_words (codes "prefix-set") (prefix_set_name conf set.at) (keyword 112 (codes "refix-set") refl) (name_is (prefix_set_name conf set.at) h)
condition_follows conf (conditions.PrefixSetOrLonger set) h =
    with_word (codes "prefix-set") (word (prefix_set_name conf set.at) ∷ word (codes "or-longer") ∷ []) (keyword 112 (codes "refix-set") refl)
    (two_words (prefix_set_name conf set.at) (codes "or-longer") (name_is (prefix_set_name conf set.at) h) (keyword 111 (codes "r-longer") refl))
condition_follows conf (conditions.PathNumber part asn) h = two_words (path_word part) (decimal asn) (path_is part) (within_is (least_as part) 4294967295 asn (omega arith) h)
condition_follows conf (conditions.PathSet part set) h =
    with_word (path_word part) (word (codes "as-set") ∷ word (as_set_name conf set.at) ∷ []) (path_is part)
    (two_words (codes "as-set") (as_set_name conf set.at) (keyword 97 (codes "s-set") refl) (name_is (as_set_name conf set.at) h))
condition_follows conf (conditions.OriginSet set) h = two_words (codes "origin-set") (origin_set_name conf set.at) (keyword 111 (codes "rigin-set") refl) (name_is (origin_set_name conf set.at) h)
condition_follows conf (conditions.Ovs ovs) h = two_words (codes "ovs") (ovs_word ovs) (keyword 111 (codes "vs") refl) (ovs_is ovs)
condition_follows conf (conditions.Community p) h =
    two_words (codes "community") (pattern_text p) (keyword 99 (codes "ommunity") refl) (pattern_word p (small_part 65535 p.high (omega arith) h.0) (small_part 65535 p.low (omega arith) h.1))
condition_follows conf (conditions.LargeCommunity p) h =
    two_words (codes "large-community") (large_pattern_text p) (keyword 108 (codes "arge-community") refl)
    (large_pattern_word p (small_part 4294967295 p.global (omega arith) h.0) (small_part 4294967295 p.first (omega arith) h.1) (small_part 4294967295 p.second (omega arith) h.2))
condition_follows conf (conditions.MaxAsLen most) h = two_words (codes "max-as-len") (decimal most) (keyword 109 (codes "ax-as-len") refl) (within_is 0 1023 most (omega arith) h)
condition_follows conf (conditions.NextHop address) h = two_words (codes "nexthop") (addr_text address) (keyword 110 (codes "exthop") refl) (addr_word address)
condition_follows conf (conditions.Family family) h = one_word (family_word family) (family_is family)

conditions_follow : (conf : Conf) (cs : List Condition) → Each (IsCondition conf) cs → AreFollowing (conditions_pieces conf cs)
conditions_follow conf [] h = tt
conditions_follow conf (c ∷ cs) h = following_both (condition_pieces conf c) (conditions_pieces conf cs) (condition_follows conf c h.0) (conditions_follow conf cs h.1)

quick_follows : (quick : Bool) → AreFollowing (quick_pieces quick)
quick_follows true = one_word (codes "quick") (keyword 113 (codes "uick") refl)
quick_follows false = tt

rule_rib_follows : (conf : Conf) (direction : Direction) (rib : Option ℕ) → IsRuleRib conf direction rib → AreFollowing (rule_rib_pieces conf rib)
rule_rib_follows conf direction None h = tt
rule_rib_follows conf From (Some number) h = two_words (codes "rib") (rib_name conf number) (keyword 114 (codes "ib") refl) (name_is (rib_name conf number) h)
rule_rib_follows conf To (Some number) h = absurd h

action_is : (action : Action) → IsText Word (action_word action)
action_is Allow = keyword 97 (codes "llow") refl
action_is Deny = keyword 100 (codes "eny") refl
action_is Match = keyword 109 (codes "atch") refl

direction_is : (direction : Direction) → IsText Word (direction_word direction)
direction_is From = keyword 102 (codes "rom") refl
direction_is To = keyword 116 (codes "o") refl

rule_good : (conf : Conf) (r : Rule) → IsRule conf r → IsGoodLine (rule_pieces conf r)
rule_good conf r h =
    let peer : List Piece = word (direction_word r.direction) ∷ peer_pieces r.peer in
    let behind : List Piece = conditions_pieces conf r.conditions ++ behind_pieces r.set in
    let peer_good : AreFollowing peer = with_word (direction_word r.direction) (peer_pieces r.peer) (direction_is r.direction) (peer_follows r.peer h.peer) in
    let head : AreFollowing (head_rest conf r) = following_both (quick_pieces r.quick) (rule_rib_pieces conf r.rib ++ peer) (quick_follows r.quick) (following_both (rule_rib_pieces conf r.rib) peer (rule_rib_follows conf r.direction r.rib h.rib) peer_good) in
    from_first (action_word r.action) (head_rest conf r ++ behind) (action_is r.action)
    (following_both (head_rest conf r) behind head
    (following_both (conditions_pieces conf r.conditions) (behind_pieces r.set) (conditions_follow conf r.conditions h.conditions) (behind_follows r.set (small_items (place_of r.direction) r.set h.set.0))))

-- ---- the whole text

pub canonical_good : (conf : Conf) → IsReadable conf → AreGoodLines (canonical_lines conf)
canonical_good conf h =
    let rules : List (List Piece) = map (rule_pieces conf) conf.rules in
    let neighbours : List (List Piece) = neighbours_lines conf ++ rules in
    let networks : List (List Piece) = map network_pieces conf.networks ++ neighbours in
    let sets : List (List Piece) = sets_lines conf ++ networks in
    good_both (globals_lines conf) (map rib_pieces conf.ribs ++ sets) (globals_good conf h.asn h.router_id h.hold h.hold_min h.socket h.listen)
    (good_both (map rib_pieces conf.ribs) sets (good_map IsRib rib_pieces rib_good conf.ribs h.ribs)
    (good_both (sets_lines conf) networks (sets_good conf h.prefix_sets h.as_sets h.origin_sets h.roas)
    (good_both (map network_pieces conf.networks) neighbours (good_map IsNetwork network_pieces network_good conf.networks h.networks)
    (good_both (neighbours_lines conf) rules (neighbours_good conf h.neighbours) (good_map (IsRule conf) (rule_pieces conf) (rule_good conf) conf.rules h.rules)))))

-- the tokens of a canonical text within its limit are those that were printed, at their places
pub canonical_tokens : (limit : ℕ) (conf : Conf) → IsReadable conf → length (canonical conf) ≤ limit → tokens limit (canonical conf) ≡ Ok (lines_tokens 1 0 (canonical_lines conf))
canonical_tokens limit conf h fits =
    let same : canonical conf ≡ lines_text (canonical_lines conf) = canonical_is conf in
    ap (tokens limit) same
    ∙ text_read_back limit (canonical_lines conf) (good_lines (canonical_lines conf) (canonical_good conf h)) (subst (λ (text : List ℕ). length text ≤ limit) same fits)
