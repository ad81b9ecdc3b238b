-- Printed rules are read back, each with its one peer and without lists.
use Rattle.std.proofs.Common.{◌≡◌, ◌∙◌, ℕ, ◌^◌, ◌<◌, true, false, List, [], ◌∷◌, ◌++◌, codes, decimal, None, Ok, refl, ap, bytes_eq, arith}
use Rattle.net_base.specs.declared.addr.Addr.{Addr}
use Rattle.net_base.specs.declared.addr.Family.{Family}
use Rattle.net_base.specs.declared.addr.Family.TheVariants.{V4, V6}
use Rattle.net_base.specs.declared.roa.Ovs.{Ovs}
use Rattle.net_base.specs.declared.roa.Ovs.TheVariants.{Valid, Invalid, NotFound}
use Rattle.net_base.specs.Addr.{addr_text}
use Rattle.net_base.specs.Number.{number_of}
use Rattle.conf_tree.specs.declared.token.Token.{Token}
use Rattle.conf_tree.specs.declared.token.TokenKind.TheVariants.{Word}
use Rattle.conf_tree.specs.declared.conf.Conf.{Conf}
use Rattle.conf_tree.specs.declared.draft.ConditionBlock.TheVariants as blocks
use Rattle.conf_tree.specs.declared.rule.CommunityPattern.{CommunityPattern}
use Rattle.conf_tree.specs.declared.rule.LargePattern.{LargePattern}
use Rattle.conf_tree.specs.declared.rule.PathPart.{PathPart}
use Rattle.conf_tree.specs.declared.rule.PathPart.TheVariants as parts
use Rattle.conf_tree.specs.declared.rule.Peer.{Peer}
use Rattle.conf_tree.specs.declared.rule.Peer.TheVariants as peers
use Rattle.conf_tree.specs.declared.rule.Condition.{Condition}
use Rattle.conf_tree.specs.declared.rule.Condition.TheVariants as conditions
use Rattle.conf_tree.specs.declared.sets.PrefixRange.{PrefixRange}
use Rattle.conf_tree.specs.Reading.{text_of, word_is, word_in, mark_is, unless_full}
use Rattle.conf_tree.specs.Values.{address_of}
use Rattle.conf_tree.specs.RuleReading.{Lists, group_peer_at, as_peer_at, address_peer_at, one_peer_at, known_peer_at, begins_peer, peer_at, ranged_at, rule_prefix_at, one_prefix_at, prefix_condition_at, prefix_set_condition_at, as_set_condition_at, one_number_at, path_condition_at, origin_set_condition_at, ovs_condition_at, community_condition_at, large_condition_at, max_as_len_condition_at, next_hop_condition_at, route_condition_at, plain_condition_at, other_condition_at, path_word_at, known_condition_at, condition_at}
use Rattle.conf_tree.specs.Canonical.{prefix_set_name, as_set_name, origin_set_name, pattern_text, large_pattern_text, path_word}
use Rattle.conf_tree.specs.Readable.{IsWithin, IsAs, IsName, IsRange, IsGroupName, IsPattern, IsLargePattern, IsPeer, least_as, IsCondition}
use Rattle.conf_tree.specs.CanonicalDraft.{condition_block}
use Rattle.conf_round.proofs.Pieces.{line_tokens}
use Rattle.conf_round.proofs.Words.{addr_read_back}
use Rattle.conf_round.proofs.Lines.{word}
use Rattle.conf_round.proofs.SetLines.{range_rest}
use Rattle.conf_round.proofs.RuleLines.{peer_pieces, condition_pieces}
use Rattle.conf_round.proofs.ReadValues.{token, number_back, as_number_back, differs, number_of_decimal}
use Rattle.conf_round.proofs.ReadTexts.{address_back, prefix_back, lengths_back, name_back, group_name_back, addr_unlike, no_any, no_ebgp, no_ibgp, no_group, no_as, no_blackhole, no_reject}
use Rattle.conf_round.proofs.ReadPatterns.{community_back, large_back, pattern_is_joined, large_is_joined}

-- ---- peers

abbrev pub PeerBack : Peer → Type 0
PeerBack peer = (line at : ℕ) (rest : List Token) → peer_at false (line_tokens line at (peer_pieces peer) ++ rest) ≡ Ok (peer, rest)

any_back : PeerBack peers.Any
unfolding peer_at begins_peer word_in word_is text_of unless_full known_peer_at
any_back line at rest = refl

ebgp_back : PeerBack peers.Ebgp
unfolding peer_at begins_peer word_in word_is text_of unless_full known_peer_at
ebgp_back line at rest = refl

ibgp_back : PeerBack peers.Ibgp
unfolding peer_at begins_peer word_in word_is text_of unless_full known_peer_at
ibgp_back line at rest = refl

address_peer_back : (a : Addr) → PeerBack (peers.Address a)
unfolding peer_at begins_peer word_in word_is text_of unless_full known_peer_at one_peer_at address_peer_at address_of
address_peer_back a line at rest =
    rw (addr_unlike (codes "any") a no_any, addr_unlike (codes "ebgp") a no_ebgp, addr_unlike (codes "ibgp") a no_ibgp, addr_unlike (codes "group") a no_group, addr_unlike (codes "AS") a no_as, addr_read_back a)
    (rw (address_back a line _ _ rest) refl)

group_peer_back : (name : List ℕ) → IsGroupName name → PeerBack (peers.Group name)
unfolding peer_at begins_peer word_in word_is text_of unless_full known_peer_at one_peer_at group_peer_at
group_peer_back name h line at rest = rw (group_name_back name line _ _ rest h) refl

as_peer_back : (asn : ℕ) → IsAs asn → PeerBack (peers.As asn)
unfolding peer_at begins_peer word_in word_is text_of unless_full known_peer_at one_peer_at as_peer_at
as_peer_back asn h line at rest = rw (as_number_back 1 asn line _ _ rest h) refl

pub peer_back : (peer : Peer) → IsPeer peer → PeerBack peer
peer_back peers.Any h = any_back
peer_back peers.Ebgp h = ebgp_back
peer_back peers.Ibgp h = ibgp_back
peer_back (peers.Address a) h = address_peer_back a
peer_back (peers.Group name) h = group_peer_back name h
peer_back (peers.As asn) h = as_peer_back asn h

-- ---- conditions as they are condition_block

-- a condition is read back where the next word isn't `or-longer`
abbrev pub ConditionBack : Conf → Condition → Type 0
ConditionBack conf c = (lists : Lists) (line at : ℕ) (rest : List Token) → word_is (codes "or-longer") rest ≡ false → condition_at lists false (line_tokens line at (condition_pieces conf c) ++ rest) ≡ Ok ((condition_block conf c, lists), rest)

prefix_condition_back : (conf : Conf) (r : PrefixRange) → IsRange r → ConditionBack conf (conditions.Prefix r)
unfolding condition_at word_in word_is text_of unless_full known_condition_at prefix_condition_at mark_is one_prefix_at rule_prefix_at ranged_at
prefix_condition_back conf r h lists line at rest e = rw (prefix_back r.prefix line _ _ (line_tokens line _ (range_rest r) ++ rest)) (rw (lengths_back r line _ _ _ _ _ _ _ _ rest h) refl)

prefix_set_then : (lists : Lists) (name : List ℕ) (line start end : ℕ) (rest : List Token) → IsName name → word_is (codes "or-longer") rest ≡ false → prefix_set_condition_at lists (token Word line start end name ∷ rest) ≡ Ok ((blocks.PrefixSet name, lists), rest)
unfolding prefix_set_condition_at
prefix_set_then lists name line start end rest h e = rw (name_back name line start end rest h) (rw e refl)

or_longer_then : (lists : Lists) (name : List ℕ) (line start end s f : ℕ) (rest : List Token) → IsName name
    → prefix_set_condition_at lists (token Word line start end name ∷ token Word line s f (codes "or-longer") ∷ rest) ≡ Ok ((blocks.PrefixSetOrLonger name, lists), rest)
unfolding prefix_set_condition_at word_is text_of
or_longer_then lists name line start end s f rest h = rw (name_back name line start end (token Word line s f (codes "or-longer") ∷ rest) h) refl

prefix_set_back : (conf : Conf) (name : List ℕ) (lists : Lists) (line at : ℕ) (rest : List Token) → IsName name → word_is (codes "or-longer") rest ≡ false
    → condition_at lists false (line_tokens line at (word (codes "prefix-set") ∷ word name ∷ []) ++ rest) ≡ Ok ((blocks.PrefixSet name, lists), rest)
unfolding condition_at word_in word_is text_of unless_full known_condition_at
prefix_set_back conf name lists line at rest h e = prefix_set_then lists name line _ _ rest h e

or_longer_back : (conf : Conf) (name : List ℕ) (lists : Lists) (line at : ℕ) (rest : List Token) → IsName name
    → condition_at lists false (line_tokens line at (word (codes "prefix-set") ∷ word name ∷ word (codes "or-longer") ∷ []) ++ rest) ≡ Ok ((blocks.PrefixSetOrLonger name, lists), rest)
unfolding condition_at word_in word_is text_of unless_full known_condition_at
or_longer_back conf name lists line at rest h = or_longer_then lists name line _ _ _ _ rest h

no_number : number_of (codes "as-set") ≡ None
unfolding number_of
no_number = refl

no_set : (n : ℕ) → n < 2 ^ 64 → bytes_eq (codes "as-set") (decimal n) ≡ false
no_set n h = differs (codes "as-set") (decimal n) (λ e. absurd (let f = ap number_of e in let g = number_of_decimal n h in let i = no_number in cc))

path_number_then : (lists : Lists) (part : PathPart) (low n line start end : ℕ) (rest : List Token) → IsWithin low 4294967295 n → path_condition_at lists part low (token Word line start end (decimal n) ∷ rest) ≡ Ok ((blocks.PathNumbers part (n ∷ []), lists), rest)
unfolding path_condition_at mark_is word_is text_of one_number_at
path_number_then lists part low n line start end rest h = rw (no_set n (omega (arith, h.most))) (rw (as_number_back low n line start end rest h) refl)

path_set_then : (lists : Lists) (part : PathPart) (low : ℕ) (name : List ℕ) (line a b start end : ℕ) (rest : List Token) → IsName name
    → path_condition_at lists part low (token Word line a b (codes "as-set") ∷ token Word line start end name ∷ rest) ≡ Ok ((blocks.PathSet part name, lists), rest)
unfolding path_condition_at mark_is word_is text_of as_set_condition_at
path_set_then lists part low name line a b start end rest h = rw (name_back name line start end rest h) refl

path_number_back : (part : PathPart) (n : ℕ) (lists : Lists) (line at : ℕ) (rest : List Token) → IsWithin (least_as part) 4294967295 n
    → condition_at lists false (line_tokens line at (word (path_word part) ∷ word (decimal n) ∷ []) ++ rest) ≡ Ok ((blocks.PathNumbers part (n ∷ []), lists), rest)
unfolding condition_at word_in word_is text_of unless_full known_condition_at path_word_at
path_number_back parts.Any n lists line at rest h = path_number_then lists parts.Any 1 n line _ _ rest h
path_number_back parts.Source n lists line at rest h = path_number_then lists parts.Source 0 n line _ _ rest h
path_number_back parts.Transit n lists line at rest h = path_number_then lists parts.Transit 1 n line _ _ rest h
path_number_back parts.Peer n lists line at rest h = path_number_then lists parts.Peer 1 n line _ _ rest h

path_set_back : (part : PathPart) (name : List ℕ) (lists : Lists) (line at : ℕ) (rest : List Token) → IsName name
    → condition_at lists false (line_tokens line at (word (path_word part) ∷ word (codes "as-set") ∷ word name ∷ []) ++ rest) ≡ Ok ((blocks.PathSet part name, lists), rest)
unfolding condition_at word_in word_is text_of unless_full known_condition_at path_word_at
path_set_back parts.Any name lists line at rest h = path_set_then lists parts.Any 1 name line _ _ _ _ rest h
path_set_back parts.Source name lists line at rest h = path_set_then lists parts.Source 0 name line _ _ _ _ rest h
path_set_back parts.Transit name lists line at rest h = path_set_then lists parts.Transit 1 name line _ _ _ _ rest h
path_set_back parts.Peer name lists line at rest h = path_set_then lists parts.Peer 1 name line _ _ _ _ rest h

-- a condition without lists, by what is read behind its word
origin_set_back : (conf : Conf) (name : List ℕ) (lists : Lists) (line at : ℕ) (rest : List Token) → IsName name
    → condition_at lists false (line_tokens line at (word (codes "origin-set") ∷ word name ∷ []) ++ rest) ≡ Ok ((blocks.OriginSet name, lists), rest)
unfolding condition_at word_in word_is text_of unless_full known_condition_at path_word_at other_condition_at plain_condition_at origin_set_condition_at
origin_set_back conf name lists line at rest h = rw (name_back name line _ _ rest h) refl

ovs_back : (conf : Conf) (ovs : Ovs) → ConditionBack conf (conditions.Ovs ovs)
unfolding condition_at word_in word_is text_of unless_full known_condition_at path_word_at other_condition_at plain_condition_at ovs_condition_at
ovs_back conf Valid lists line at rest e = refl
ovs_back conf Invalid lists line at rest e = refl
ovs_back conf NotFound lists line at rest e = refl

community_printed : (p : CommunityPattern) (line start end : ℕ) (rest : List Token) → IsPattern p → community_condition_at (token Word line start end (pattern_text p) ∷ rest) ≡ Ok (blocks.Community p, rest)
unfolding community_condition_at
community_printed p line start end rest h =
    ap (λ (text : List ℕ). community_condition_at (token Word line start end text ∷ rest)) (pattern_is_joined p) ∙ rw (community_back true p line start end rest h tt tt) refl

community_condition_back : (conf : Conf) (p : CommunityPattern) → IsPattern p → ConditionBack conf (conditions.Community p)
unfolding condition_at word_in word_is text_of unless_full known_condition_at path_word_at other_condition_at plain_condition_at
community_condition_back conf p h lists line at rest e = rw (community_printed p line _ _ rest h) refl

large_printed : (p : LargePattern) (line start end : ℕ) (rest : List Token) → IsLargePattern p → large_condition_at (token Word line start end (large_pattern_text p) ∷ rest) ≡ Ok (blocks.LargeCommunity p, rest)
unfolding large_condition_at
large_printed p line start end rest h =
    ap (λ (text : List ℕ). large_condition_at (token Word line start end text ∷ rest)) (large_is_joined p) ∙ rw (large_back true p line start end rest h tt tt tt) refl

large_condition_back : (conf : Conf) (p : LargePattern) → IsLargePattern p → ConditionBack conf (conditions.LargeCommunity p)
unfolding condition_at word_in word_is text_of unless_full known_condition_at path_word_at other_condition_at plain_condition_at
large_condition_back conf p h lists line at rest e = rw (large_printed p line _ _ rest h) refl

max_as_len_back : (conf : Conf) (most : ℕ) → IsWithin 0 1023 most → ConditionBack conf (conditions.MaxAsLen most)
unfolding condition_at word_in word_is text_of unless_full known_condition_at path_word_at other_condition_at plain_condition_at route_condition_at max_as_len_condition_at
max_as_len_back conf most h lists line at rest e = rw (number_back 0 1023 most line _ _ rest h (omega arith)) refl

next_hop_then : (a : Addr) (line start end : ℕ) (rest : List Token) → next_hop_condition_at (token Word line start end (addr_text a) ∷ rest) ≡ Ok (blocks.NextHop a, rest)
unfolding next_hop_condition_at word_in word_is text_of
next_hop_then a line start end rest = rw (addr_unlike (codes "blackhole") a no_blackhole, addr_unlike (codes "reject") a no_reject) (rw (address_back a line start end rest) refl)

next_hop_back : (conf : Conf) (a : Addr) → ConditionBack conf (conditions.NextHop a)
unfolding condition_at word_in word_is text_of unless_full known_condition_at path_word_at other_condition_at plain_condition_at route_condition_at
next_hop_back conf a lists line at rest e = rw (next_hop_then a line _ _ rest) refl

family_back : (conf : Conf) (family : Family) → ConditionBack conf (conditions.Family family)
unfolding condition_at word_in word_is text_of unless_full known_condition_at path_word_at other_condition_at plain_condition_at route_condition_at
family_back conf V4 lists line at rest e = refl
family_back conf V6 lists line at rest e = refl

pub condition_back : (conf : Conf) (c : Condition) → IsCondition conf c → ConditionBack conf c
condition_back conf (conditions.Prefix range) h = prefix_condition_back conf range h
condition_back conf (conditions.PrefixSet set) h = λ lists line at rest e. prefix_set_back conf (prefix_set_name conf set.at) lists line at rest h e
condition_back conf (conditions.PrefixSetOrLonger set) h = λ lists line at rest e. or_longer_back conf (prefix_set_name conf set.at) lists line at rest h
condition_back conf (conditions.PathNumber part asn) h = λ lists line at rest e. path_number_back part asn lists line at rest h
condition_back conf (conditions.PathSet part set) h = λ lists line at rest e. path_set_back part (as_set_name conf set.at) lists line at rest h
condition_back conf (conditions.OriginSet set) h = λ lists line at rest e. origin_set_back conf (origin_set_name conf set.at) lists line at rest h
condition_back conf (conditions.Ovs ovs) h = ovs_back conf ovs
condition_back conf (conditions.Community pattern) h = community_condition_back conf pattern h
condition_back conf (conditions.LargeCommunity pattern) h = large_condition_back conf pattern h
condition_back conf (conditions.MaxAsLen most) h = max_as_len_back conf most h
condition_back conf (conditions.NextHop address) h = next_hop_back conf address
condition_back conf (conditions.Family family) h = family_back conf family
