-- Rules go by their own tokens.
use Rattle.std.proofs.Common.{◌≡◌, refl, cond, ap}
use Rattle.std.specs.Prelude.{ℕ, ◌-◌, ◌/◌, Bool, true, false, List, [], ◌∷◌, length, Option, None, Some, Ok, codes}
use Rattle.net_base.specs.declared.conf.ConfKind.TheVariants.{NotInProfile}
use Rattle.net_base.specs.declared.conf.Counted.{Counted}
use Rattle.net_base.specs.declared.conf.Counted.TheVariants as counted
use Rattle.net_base.specs.declared.addr.Family.TheVariants as families
use Rattle.net_base.specs.declared.roa.Ovs.TheVariants as ovs
use Rattle.conf_tree.specs.declared.token.Token.{Token}
use Rattle.conf_tree.specs.declared.rule.Action.{Action}
use Rattle.conf_tree.specs.declared.rule.Direction.{Direction}
use Rattle.conf_tree.specs.declared.rule.Direction.TheVariants as ways
use Rattle.conf_tree.specs.declared.rule.Peer.TheVariants as peers
use Rattle.conf_tree.specs.declared.rule.PathPart.{PathPart}
use Rattle.conf_tree.specs.declared.rule.PathPart.TheVariants as parts
use Rattle.conf_tree.specs.declared.draft.ConditionBlock.{ConditionBlock}
use Rattle.conf_tree.specs.declared.draft.ConditionBlock.TheVariants as conditions
use Rattle.conf_tree.specs.Faults.{◌>>=◌}
use Rattle.conf_tree.specs.Reading.{Reading, fails, unexpected, behind, word_is, word_in, mark_is, ends_line, keyword_at, unless_full, full_list_at, one_or_list_at}
use Rattle.conf_tree.specs.Values.{number_at, as_number_at, address_of, address_at, prefix_at, lengths_at, name_at, group_name_at, community_at, large_community_at}
use Rattle.conf_tree.specs.ItemReading.{left_out_of_rules, optional_set_at}
use Rattle.conf_tree.specs.RuleReading.{most_conditions, group_peer_at, as_peer_at, address_peer_at, one_peer_at, known_peer_at, begins_peer, peer_at, ranged_at, rule_prefix_at, counted_number_at, rule_number_at, with_prefixes, with_numbers, Condition, prefix_list_at, one_prefix_at, prefix_condition_at, prefix_set_condition_at, number_list_at, as_set_condition_at, one_number_at, path_condition_at, origin_set_condition_at, ovs_condition_at, community_condition_at, large_condition_at, max_as_len_condition_at, next_hop_condition_at, route_condition_at, plain_condition_at, condition_words, other_condition_at, path_word_at, known_condition_at, condition_at, ends_conditions, conditions_at, place_of, rule_body_at, rib_rule_at, directed_rule_at, rule_at, Lists}
use Rattle.conf_tree.specs.Reading.{text_of}
use Rattle.conf_local.specs.Texts.{IsText}
use Rattle.conf_local.proofs.Local.{Begun, OfFirst, Local, stays, takes, past, fails_here, one_of, by_first, then, then_with, unless, left_text}
use Rattle.conf_local.proofs.Tests.{word_is_first, word_in_first, mark_is_first, word_passes_first, word_begun, words_begun, mark_begun, value_begun, keyword_then}
use Rattle.conf_local.proofs.Values.{number_local, as_number_local, address_local, prefix_of_word_first, prefix_none, lengths_local, name_local, group_name_local, community_local, large_community_local}
use Rattle.conf_local.proofs.Loops.{shorter, weaker, turns_local}
use Rattle.conf_local.proofs.Lists.{full_list_local, one_or_list_local}
use Rattle.std.proofs.Common.{eqb, ◌<◌, Err}
use Rattle.net_base.specs.declared.prefix.Prefix.{Prefix}
use Rattle.net_base.specs.declared.conf.ConfKind.TheVariants.{TooMany}
use Rattle.net_base.specs.Number.{is_number}
use Rattle.conf_tree.specs.Values.{prefix_of_word, spelled, word_passes, are_joined, in_range, within, word_text}
use Rattle.conf_local.proofs.Items.{optional_set_local}

pub group_peer_local : {some : Bool} (tokens : List Token) → IsText tokens → Local some group_peer_at tokens
unfolding group_peer_at
group_peer_local tokens h =
    then (λ x. group_name_at x) (λ name. Ok (peers.Group name.0, name.1)) tokens (group_name_local tokens h)
    (λ name t1 h1. stays _ t1 h1)

pub as_peer_local : {some : Bool} (tokens : List Token) → IsText tokens → Local some as_peer_at tokens
unfolding as_peer_at
as_peer_local tokens h =
    then (λ x. as_number_at 1 x) (λ asn. Ok (peers.As asn.0, asn.1)) tokens (as_number_local _ tokens h)
    (λ asn t1 h1. stays _ t1 h1)

pub address_peer_local : {some : Bool} (tokens : List Token) → IsText tokens → Local some address_peer_at tokens
unfolding address_peer_at
address_peer_local tokens h =
    then (λ x. address_at x) (λ address. Ok (peers.Address address.0, address.1)) tokens (address_local tokens h)
    (λ address t1 h1. stays _ t1 h1)

pub one_peer_local : {some : Bool} (tokens : List Token) → IsText tokens → Local some one_peer_at tokens
unfolding one_peer_at
one_peer_local tokens h =
    one_of (λ x. word_is (codes "group") x) (λ x. group_peer_at (behind x)) _ tokens (word_is_first _)
    (λ e1. past group_peer_at tokens (word_begun _ tokens h e1) group_peer_local)
    (λ e1. one_of (λ x. word_is (codes "AS") x) (λ x. as_peer_at (behind x)) _ tokens (word_is_first _)
    (λ e2. past as_peer_at tokens (word_begun _ tokens h e2) as_peer_local)
    (λ e2. address_peer_local tokens h))

pub known_peer_local : {some : Bool} (tokens : List Token) → IsText tokens → Local some known_peer_at tokens
unfolding known_peer_at
known_peer_local tokens h =
    one_of (λ x. word_is (codes "any") x) (λ x. Ok (peers.Any, behind x)) _ tokens (word_is_first _)
    (λ e1. takes _ tokens (word_begun _ tokens h e1))
    (λ e1. one_of (λ x. word_is (codes "ebgp") x) (λ x. Ok (peers.Ebgp, behind x)) _ tokens (word_is_first _)
    (λ e2. takes _ tokens (word_begun _ tokens h e2))
    (λ e2. one_of (λ x. word_is (codes "ibgp") x) (λ x. Ok (peers.Ibgp, behind x)) _ tokens (word_is_first _)
    (λ e3. takes _ tokens (word_begun _ tokens h e3))
    (λ e3. one_peer_local tokens h)))

begins_peer_first : OfFirst begins_peer
unfolding begins_peer word_in word_is address_of text_of
begins_peer_first z a b = refl

pub peer_local : {some : Bool} (full : Bool) (tokens : List Token) → IsText tokens → Local some (peer_at full) tokens
unfolding peer_at
peer_local full tokens h =
    one_of begins_peer (λ x. unless_full full counted.Rules x (known_peer_at x)) _ tokens begins_peer_first
    (λ e. unless known_peer_at _ _ tokens h (known_peer_local tokens h))
    (λ e. fails_here _ tokens h)

-- what stands behind a prefix, unless the list has no room for it
pub prefix_then : {A : Type 0} {some : Bool} (g : Prefix → List Token → Reading A) (full : Bool) (kind : Counted) (t : List Token) → IsText t → ((p : Prefix) (t' : List Token) → IsText t' → Local false (g p) t')
    → Local some (λ x. prefix_at x >>= λ p. unless_full full kind x (g p.0 p.1)) t
unfolding prefix_at
prefix_then {A} {some} g full kind t h l = by_first prefix_of_word (λ c x. spelled x c >>= λ p. unless_full full kind x (g p.0 p.1)) t prefix_of_word_first by
  where
    by : (c : Option Prefix) → prefix_of_word t ≡ c → Local some (λ x. spelled x c >>= λ p. unless_full full kind x (g p.0 p.1)) t
    by None e = fails_here _ t h
    by (Some p) e = unless (λ x. g p (behind x)) full kind t h (past (g p) t (value_begun prefix_of_word prefix_none t h p e) (l p))

pub ranged_local : {some : Bool} (full : Bool) (kind : Counted) (tokens : List Token) → IsText tokens → Local some (ranged_at full kind) tokens
unfolding ranged_at
ranged_local full kind tokens h = prefix_then lengths_at full kind tokens h lengths_local

pub rule_prefix_local : {some : Bool} (full : Bool) (tokens : List Token) → IsText tokens → Local some (rule_prefix_at full) tokens
unfolding rule_prefix_at
rule_prefix_local full tokens h =
    ranged_local _ _ tokens h

no_room_local : {some : Bool} (low : ℕ) (kind : Counted) (tokens : List Token) → IsText tokens → Local some (λ x. as_number_at low x >>= λ asn. fails {A = ℕ × List Token} (TooMany kind) x) tokens
unfolding as_number_at number_at text_of
no_room_local {some} low kind tokens h =
    by_first (word_passes (are_joined 46)) (λ b x. cond b (fails NotInProfile x) (cond (word_passes is_number x) (in_range x (within low 4294967295 (word_text x))) (unexpected x)) >>= λ asn. fails (TooMany kind) x) tokens (word_passes_first _) joined
  where
    value : (c : Option ℕ) → within low 4294967295 (word_text tokens) ≡ c → Local some (λ x. in_range x c >>= λ asn. fails {A = ℕ × List Token} (TooMany kind) x) tokens
    value None e = fails_here _ tokens h
    value (Some n) e = fails_here _ tokens h

    number : (b : Bool) → word_passes is_number tokens ≡ b → Local some (λ x. cond b (in_range x (within low 4294967295 (word_text x))) (unexpected x) >>= λ asn. fails {A = ℕ × List Token} (TooMany kind) x) tokens
    number true e = by_first (λ x. within low 4294967295 (word_text x)) (λ c x. in_range x c >>= λ asn. fails (TooMany kind) x) tokens (λ z a b. refl) value
    number false e = fails_here _ tokens h

    joined : (b : Bool) → word_passes (are_joined 46) tokens ≡ b
        → Local some (λ x. cond b (fails NotInProfile x) (cond (word_passes is_number x) (in_range x (within low 4294967295 (word_text x))) (unexpected x)) >>= λ asn. fails {A = ℕ × List Token} (TooMany kind) x) tokens
    joined true e = fails_here _ tokens h
    joined false e = by_first (word_passes is_number) (λ b x. cond b (in_range x (within low 4294967295 (word_text x))) (unexpected x) >>= λ asn. fails (TooMany kind) x) tokens (word_passes_first _) number

pub counted_number_local : {some : Bool} (low : ℕ) (full : Bool) (kind : Counted) (tokens : List Token) → IsText tokens → Local some (counted_number_at low full kind) tokens
unfolding counted_number_at unless_full
counted_number_local low true kind tokens h = no_room_local low kind tokens h
counted_number_local low false kind tokens h = then (as_number_at low) (λ asn. Ok (asn.0, asn.1)) tokens (as_number_local low tokens h) (λ asn t1 h1. stays _ t1 h1)

pub rule_number_local : {some : Bool} (low : ℕ) (full : Bool) (tokens : List Token) → IsText tokens → Local some (rule_number_at low full) tokens
unfolding rule_number_at
rule_number_local low full tokens h =
    counted_number_local _ _ _ tokens h

prefix_list_local : {some : Bool} (lists : Lists) (tokens : List Token) → IsText tokens → Begun tokens → Local some (prefix_list_at lists) tokens
unfolding prefix_list_at
prefix_list_local lists tokens h b =
    one_of (λ x. lists.prefixes) (λ x. unexpected x) _ tokens (λ z a c. refl)
    (λ e. fails_here _ tokens h)
    (λ e. then (λ x. full_list_at rule_prefix_at lists.room (behind x)) (λ members. Ok ((conditions.Prefixes members.0, with_prefixes lists members.0), members.1)) tokens
    (past (full_list_at rule_prefix_at lists.room) tokens b (full_list_local rule_prefix_at rule_prefix_local lists.room)) (λ members t1 h1. stays _ t1 h1))

pub one_prefix_local : {some : Bool} (lists : Lists) (tokens : List Token) → IsText tokens → Local some (one_prefix_at lists) tokens
unfolding one_prefix_at
one_prefix_local lists tokens h =
    then (λ x. rule_prefix_at false x) (λ entry. Ok ((conditions.Prefixes (entry.0 ∷ []), lists), entry.1)) tokens (rule_prefix_local _ tokens h)
    (λ entry t1 h1. stays _ t1 h1)

pub prefix_condition_local : {some : Bool} (lists : Lists) (tokens : List Token) → IsText tokens → Local some (prefix_condition_at lists) tokens
unfolding prefix_condition_at
prefix_condition_local lists tokens h =
    one_of (λ x. mark_is (codes "{") x) (λ x. prefix_list_at lists x) _ tokens (mark_is_first _)
    (λ e1. prefix_list_local _ tokens h (mark_begun _ tokens h e1))
    (λ e1. one_prefix_local _ tokens h)

pub prefix_set_condition_local : {some : Bool} (lists : Lists) (tokens : List Token) → IsText tokens → Local some (prefix_set_condition_at lists) tokens
unfolding prefix_set_condition_at
prefix_set_condition_local lists tokens h =
    then (λ x. name_at x) (λ name. cond (word_is (codes "or-longer") name.1) (Ok ((conditions.PrefixSetOrLonger name.0, lists), behind name.1)) (Ok ((conditions.PrefixSet name.0, lists), name.1))) tokens (name_local tokens h)
    (λ name t1 h1. one_of (λ x. word_is (codes "or-longer") x) (λ x. Ok ((conditions.PrefixSetOrLonger name, lists), behind x)) _ t1 (word_is_first _)
    (λ e2. takes _ t1 (word_begun _ t1 h1 e2))
    (λ e2. stays _ t1 h1))

number_list_local : {some : Bool} (lists : Lists) (part : PathPart) (low : ℕ) (tokens : List Token) → IsText tokens → Begun tokens → Local some (number_list_at lists part low) tokens
unfolding number_list_at
number_list_local lists part low tokens h b =
    one_of (λ x. lists.numbers) (λ x. unexpected x) _ tokens (λ z a c. refl)
    (λ e. fails_here _ tokens h)
    (λ e. then (λ x. full_list_at (rule_number_at low) lists.room (behind x)) (λ members. Ok ((conditions.PathNumbers part members.0, with_numbers lists members.0), members.1)) tokens
    (past (full_list_at (rule_number_at low) lists.room) tokens b (full_list_local (rule_number_at low) (rule_number_local low) lists.room)) (λ members t1 h1. stays _ t1 h1))

pub as_set_condition_local : {some : Bool} (lists : Lists) (part : PathPart) (tokens : List Token) → IsText tokens → Local some (as_set_condition_at lists part) tokens
unfolding as_set_condition_at
as_set_condition_local lists part tokens h =
    then (λ x. name_at x) (λ name. Ok ((conditions.PathSet part name.0, lists), name.1)) tokens (name_local tokens h)
    (λ name t1 h1. stays _ t1 h1)

pub one_number_local : {some : Bool} (lists : Lists) (part : PathPart) (low : ℕ) (tokens : List Token) → IsText tokens → Local some (one_number_at lists part low) tokens
unfolding one_number_at
one_number_local lists part low tokens h =
    then (λ x. as_number_at low x) (λ asn. Ok ((conditions.PathNumbers part (asn.0 ∷ []), lists), asn.1)) tokens (as_number_local _ tokens h)
    (λ asn t1 h1. stays _ t1 h1)

pub path_condition_local : {some : Bool} (lists : Lists) (part : PathPart) (low : ℕ) (tokens : List Token) → IsText tokens → Local some (path_condition_at lists part low) tokens
unfolding path_condition_at
path_condition_local lists part low tokens h =
    one_of (λ x. mark_is (codes "{") x) (λ x. number_list_at lists part low x) _ tokens (mark_is_first _)
    (λ e1. number_list_local _ _ _ tokens h (mark_begun _ tokens h e1))
    (λ e1. one_of (λ x. word_is (codes "as-set") x) (λ x. as_set_condition_at lists part (behind x)) _ tokens (word_is_first _)
    (λ e2. past (as_set_condition_at lists part) tokens (word_begun _ tokens h e2) (as_set_condition_local _ _))
    (λ e2. one_number_local _ _ _ tokens h))

pub origin_set_condition_local : {some : Bool} (tokens : List Token) → IsText tokens → Local some origin_set_condition_at tokens
unfolding origin_set_condition_at
origin_set_condition_local tokens h =
    then (λ x. name_at x) (λ name. Ok (conditions.OriginSet name.0, name.1)) tokens (name_local tokens h)
    (λ name t1 h1. stays _ t1 h1)

pub ovs_condition_local : {some : Bool} (tokens : List Token) → IsText tokens → Local some ovs_condition_at tokens
unfolding ovs_condition_at
ovs_condition_local tokens h =
    one_of (λ x. word_is (codes "valid") x) (λ x. Ok (conditions.Ovs ovs.Valid, behind x)) _ tokens (word_is_first _)
    (λ e1. takes _ tokens (word_begun _ tokens h e1))
    (λ e1. one_of (λ x. word_is (codes "invalid") x) (λ x. Ok (conditions.Ovs ovs.Invalid, behind x)) _ tokens (word_is_first _)
    (λ e2. takes _ tokens (word_begun _ tokens h e2))
    (λ e2. one_of (λ x. word_is (codes "not-found") x) (λ x. Ok (conditions.Ovs ovs.NotFound, behind x)) _ tokens (word_is_first _)
    (λ e3. takes _ tokens (word_begun _ tokens h e3))
    (λ e3. fails_here _ tokens h)))

pub community_condition_local : {some : Bool} (tokens : List Token) → IsText tokens → Local some community_condition_at tokens
unfolding community_condition_at
community_condition_local tokens h =
    then (λ x. community_at true x) (λ pattern. Ok (conditions.Community pattern.0, pattern.1)) tokens (community_local _ tokens h)
    (λ pattern t1 h1. stays _ t1 h1)

pub large_condition_local : {some : Bool} (tokens : List Token) → IsText tokens → Local some large_condition_at tokens
unfolding large_condition_at
large_condition_local tokens h =
    then (λ x. large_community_at true x) (λ pattern. Ok (conditions.LargeCommunity pattern.0, pattern.1)) tokens (large_community_local _ tokens h)
    (λ pattern t1 h1. stays _ t1 h1)

pub max_as_len_condition_local : {some : Bool} (tokens : List Token) → IsText tokens → Local some max_as_len_condition_at tokens
unfolding max_as_len_condition_at
max_as_len_condition_local tokens h =
    then (λ x. number_at 0 1023 x) (λ most. Ok (conditions.MaxAsLen most.0, most.1)) tokens (number_local _ _ tokens h)
    (λ most t1 h1. stays _ t1 h1)

pub next_hop_condition_local : {some : Bool} (tokens : List Token) → IsText tokens → Local some next_hop_condition_at tokens
unfolding next_hop_condition_at
next_hop_condition_local tokens h =
    one_of (λ x. word_in (codes "blackhole" ∷ codes "reject" ∷ []) x) (λ x. fails NotInProfile x) _ tokens (word_in_first _)
    (λ e1. fails_here _ tokens h)
    (λ e1. then (λ x. address_at x) (λ address. Ok (conditions.NextHop address.0, address.1)) tokens (address_local tokens h)
    (λ address t2 h2. stays _ t2 h2))

pub route_condition_local : {some : Bool} (tokens : List Token) → IsText tokens → Begun tokens → Local some route_condition_at tokens
unfolding route_condition_at
route_condition_local tokens h b =
    one_of (λ x. word_is (codes "max-as-len") x) (λ x. max_as_len_condition_at (behind x)) _ tokens (word_is_first _)
    (λ e1. past max_as_len_condition_at tokens (word_begun _ tokens h e1) max_as_len_condition_local)
    (λ e1. one_of (λ x. word_is (codes "nexthop") x) (λ x. next_hop_condition_at (behind x)) _ tokens (word_is_first _)
    (λ e2. past next_hop_condition_at tokens (word_begun _ tokens h e2) next_hop_condition_local)
    (λ e2. one_of (λ x. word_is (codes "inet") x) (λ x. Ok (conditions.Family families.V4, behind x)) _ tokens (word_is_first _)
    (λ e3. takes _ tokens (word_begun _ tokens h e3))
    (λ e3. takes _ tokens b)))

pub plain_condition_local : {some : Bool} (tokens : List Token) → IsText tokens → Begun tokens → Local some plain_condition_at tokens
unfolding plain_condition_at
plain_condition_local tokens h b =
    one_of (λ x. word_is (codes "origin-set") x) (λ x. origin_set_condition_at (behind x)) _ tokens (word_is_first _)
    (λ e1. past origin_set_condition_at tokens (word_begun _ tokens h e1) origin_set_condition_local)
    (λ e1. one_of (λ x. word_is (codes "ovs") x) (λ x. ovs_condition_at (behind x)) _ tokens (word_is_first _)
    (λ e2. past ovs_condition_at tokens (word_begun _ tokens h e2) ovs_condition_local)
    (λ e2. one_of (λ x. word_is (codes "community") x) (λ x. community_condition_at (behind x)) _ tokens (word_is_first _)
    (λ e3. past community_condition_at tokens (word_begun _ tokens h e3) community_condition_local)
    (λ e3. one_of (λ x. word_is (codes "large-community") x) (λ x. large_condition_at (behind x)) _ tokens (word_is_first _)
    (λ e4. past large_condition_at tokens (word_begun _ tokens h e4) large_condition_local)
    (λ e4. route_condition_local tokens h b))))

pub other_condition_local : {some : Bool} (lists : Lists) (tokens : List Token) → IsText tokens → Begun tokens → Local some (other_condition_at lists) tokens
unfolding other_condition_at
other_condition_local lists tokens h b =
    then (λ x. plain_condition_at x) (λ condition. Ok ((condition.0, lists), condition.1)) tokens (plain_condition_local tokens h b)
    (λ condition t1 h1. stays _ t1 h1)

pub path_word_local : {some : Bool} (lists : Lists) (tokens : List Token) → IsText tokens → Begun tokens → Local some (path_word_at lists) tokens
unfolding path_word_at
path_word_local lists tokens h b =
    one_of (λ x. word_is (codes "AS") x) (λ x. path_condition_at lists parts.Any 1 (behind x)) _ tokens (word_is_first _)
    (λ e1. past (path_condition_at lists parts.Any 1) tokens (word_begun _ tokens h e1) (path_condition_local _ _ _))
    (λ e1. one_of (λ x. word_is (codes "source-as") x) (λ x. path_condition_at lists parts.Source 0 (behind x)) _ tokens (word_is_first _)
    (λ e2. past (path_condition_at lists parts.Source 0) tokens (word_begun _ tokens h e2) (path_condition_local _ _ _))
    (λ e2. one_of (λ x. word_is (codes "transit-as") x) (λ x. path_condition_at lists parts.Transit 1 (behind x)) _ tokens (word_is_first _)
    (λ e3. past (path_condition_at lists parts.Transit 1) tokens (word_begun _ tokens h e3) (path_condition_local _ _ _))
    (λ e3. one_of (λ x. word_is (codes "peer-as") x) (λ x. path_condition_at lists parts.Peer 1 (behind x)) _ tokens (word_is_first _)
    (λ e4. past (path_condition_at lists parts.Peer 1) tokens (word_begun _ tokens h e4) (path_condition_local _ _ _))
    (λ e4. other_condition_local _ tokens h b))))

pub known_condition_local : {some : Bool} (lists : Lists) (tokens : List Token) → IsText tokens → Begun tokens → Local some (known_condition_at lists) tokens
unfolding known_condition_at
known_condition_local lists tokens h b =
    one_of (λ x. word_is (codes "prefix") x) (λ x. prefix_condition_at lists (behind x)) _ tokens (word_is_first _)
    (λ e1. past (prefix_condition_at lists) tokens (word_begun _ tokens h e1) (prefix_condition_local _))
    (λ e1. one_of (λ x. word_is (codes "prefix-set") x) (λ x. prefix_set_condition_at lists (behind x)) _ tokens (word_is_first _)
    (λ e2. past (prefix_set_condition_at lists) tokens (word_begun _ tokens h e2) (prefix_set_condition_local _))
    (λ e2. path_word_local _ tokens h b))

pub condition_local : {some : Bool} (lists : Lists) (full : Bool) (tokens : List Token) → IsText tokens → Local some (condition_at lists full) tokens
unfolding condition_at
condition_local lists full tokens h =
    one_of (λ x. word_in left_out_of_rules x) (λ x. fails NotInProfile x) _ tokens (word_in_first _)
    (λ e1. fails_here _ tokens h)
    (λ e1. one_of (λ x. word_in condition_words x) (λ x. unless_full full counted.Conditions x (known_condition_at lists x)) _ tokens (word_in_first _)
    (λ e2. unless (λ x. known_condition_at lists x) _ _ tokens h (known_condition_local _ tokens h (words_begun _ tokens h e2)))
    (λ e2. fails_here _ tokens h))

ends_conditions_first : OfFirst ends_conditions
unfolding ends_conditions ends_line word_is text_of
ends_conditions_first z a b = refl

-- what the lists of a rule leave, and for how many more conditions there is room
abbrev Left : Type 0
Left = Lists × ℕ

abbrev ConditionsReader : Type 0
ConditionsReader = Left → List Token → Reading (List ConditionBlock)

abbrev conditions_turns : Left → ℕ → List Token → Reading (List ConditionBlock)
conditions_turns s n x = conditions_at s.0 s.1 n x

abbrev more_conditions : ConditionsReader → ℕ → (Condition × List Token) → Reading (List ConditionBlock)
more_conditions f room first = f (first.0.1, room - 1) first.1 >>= λ others. Ok (first.0.0 ∷ others.0, others.1)

abbrev conditions_round : ConditionsReader → Left → List Token → Reading (List ConditionBlock)
conditions_round f s x = cond (ends_conditions x) (Ok ([], x)) (condition_at s.0 (eqb s.1 0) x >>= more_conditions f s.1)

conditions_by_less : (f g : ConditionsReader) (s : Left) (t : List Token) → IsText t → ((s' : Left) (t' : List Token) → IsText t' → length t' < length t → f s' t' ≡ g s' t') → conditions_round f s t ≡ conditions_round g s t
conditions_by_less f g s t h same = ap (λ (r : Reading (List ConditionBlock)). cond (ends_conditions t) (Ok ([], t)) r) (by (condition_at s.0 (eqb s.1 0) t) refl)
  where
    l : Local true (condition_at s.0 (eqb s.1 0)) t
    l = condition_local s.0 (eqb s.1 0) t h

    by : (r : Reading Condition) → condition_at s.0 (eqb s.1 0) t ≡ r → (r >>= more_conditions f s.1) ≡ (r >>= more_conditions g s.1)
    by (Err fault) e = refl
    by (Ok first) e =
        ap (λ (r : Reading (List ConditionBlock)). r >>= λ others. Ok (first.0.0 ∷ others.0, others.1))
        (same (first.0.1, s.1 - 1) first.1 (left_text (condition_at s.0 (eqb s.1 0)) (more_conditions f s.1) t l first.0 first.1 e) (shorter (condition_at s.0 (eqb s.1 0)) t l first.0 first.1 e))

conditions_round_local : (f : ConditionsReader) (s : Left) (t : List Token) → IsText t → ((s' : Left) (t' : List Token) → IsText t' → length t' < length t → Local false (f s') t') → Local false (conditions_round f s) t
conditions_round_local f s t h l =
    let first : Local true (condition_at s.0 (eqb s.1 0)) t = condition_local s.0 (eqb s.1 0) t h in
    one_of ends_conditions (λ x. Ok ([], x)) (λ x. condition_at s.0 (eqb s.1 0) x >>= more_conditions f s.1) t ends_conditions_first
    (λ e. stays _ t h)
    (λ e. weaker (λ x. condition_at s.0 (eqb s.1 0) x >>= more_conditions f s.1) t
    (then_with (condition_at s.0 (eqb s.1 0)) (more_conditions f s.1) t first
    (λ v left e' k'. then (f (v.1, s.1 - 1)) (λ others. Ok (v.0 ∷ others.0, others.1)) left (l (v.1, s.1 - 1) left k' (shorter (condition_at s.0 (eqb s.1 0)) t first v left e')) (λ w left' k''. stays _ left' k''))))

pub conditions_local : (lists : Lists) (room : ℕ) (tokens : List Token) → IsText tokens → Local false (λ x. conditions_at lists room (length x) x) tokens
unfolding conditions_at
conditions_local lists room tokens h = turns_local conditions_turns conditions_round (λ s n t. refl) conditions_by_less conditions_round_local (λ s t q. q) (lists, room) tokens h

pub rule_body_local : {some : Bool} (room : ℕ) (action : Action) (quick : Bool) (rib : Option (List ℕ)) (direction : Direction) (tokens : List Token) → IsText tokens → Local some (rule_body_at room action quick rib direction) tokens
unfolding rule_body_at
rule_body_local room action quick rib direction tokens h =
    then (one_or_list_at peer_at room) (λ peers. conditions_at (record { room = room / length peers.0; prefixes = false; numbers = false }) most_conditions (length peers.1) peers.1 >>= λ found. optional_set_at (place_of direction) found.1 >>= λ set. Ok (record { action = action; quick = quick; rib = rib; direction = direction; peers = peers.0; conditions = found.0; set = set.0 }, set.1)) tokens (one_or_list_local peer_at peer_local room tokens h)
    (λ peers t1 h1. then (λ x. conditions_at (record { room = room / length peers; prefixes = false; numbers = false }) most_conditions (length x) x) (λ found. optional_set_at (place_of direction) found.1 >>= λ set. Ok (record { action = action; quick = quick; rib = rib; direction = direction; peers = peers; conditions = found.0; set = set.0 }, set.1)) t1 (conditions_local (record { room = room / length peers; prefixes = false; numbers = false }) most_conditions t1 h1)
    (λ found t2 h2. then (optional_set_at (place_of direction)) (λ set. Ok (record { action = action; quick = quick; rib = rib; direction = direction; peers = peers; conditions = found; set = set.0 }, set.1)) t2 (optional_set_local (place_of direction) t2 h2) (λ set t3 h3. stays _ t3 h3)))

pub rib_rule_local : {some : Bool} (room : ℕ) (action : Action) (quick : Bool) (tokens : List Token) → IsText tokens → Local some (rib_rule_at room action quick) tokens
unfolding rib_rule_at
rib_rule_local room action quick tokens h =
    then (λ x. name_at x) (λ name. keyword_at (codes "from") name.1 >>= λ rest. rule_body_at room action quick (Some name.0) ways.From rest) tokens (name_local tokens h)
    (λ name t1 h1. keyword_then _ (λ rest. rule_body_at room action quick (Some name) ways.From rest) t1 h1 (λ t2 h2. rule_body_local _ _ _ _ _ t2 h2))

pub directed_rule_local : {some : Bool} (room : ℕ) (action : Action) (quick : Bool) (tokens : List Token) → IsText tokens → Local some (directed_rule_at room action quick) tokens
unfolding directed_rule_at
directed_rule_local room action quick tokens h =
    one_of (λ x. word_is (codes "rib") x) (λ x. rib_rule_at room action quick (behind x)) _ tokens (word_is_first _)
    (λ e1. past (rib_rule_at room action quick) tokens (word_begun _ tokens h e1) (rib_rule_local _ _ _))
    (λ e1. one_of (λ x. word_is (codes "from") x) (λ x. rule_body_at room action quick None ways.From (behind x)) _ tokens (word_is_first _)
    (λ e2. past (rule_body_at room action quick None ways.From) tokens (word_begun _ tokens h e2) (rule_body_local _ _ _ _ _))
    (λ e2. one_of (λ x. word_is (codes "to") x) (λ x. rule_body_at room action quick None ways.To (behind x)) _ tokens (word_is_first _)
    (λ e3. past (rule_body_at room action quick None ways.To) tokens (word_begun _ tokens h e3) (rule_body_local _ _ _ _ _))
    (λ e3. fails_here _ tokens h)))

pub rule_local : {some : Bool} (room : ℕ) (action : Action) (tokens : List Token) → IsText tokens → Local some (rule_at room action) tokens
unfolding rule_at
rule_local room action tokens h =
    one_of (λ x. word_is (codes "quick") x) (λ x. directed_rule_at room action true (behind x)) _ tokens (word_is_first _)
    (λ e1. past (directed_rule_at room action true) tokens (word_begun _ tokens h e1) (directed_rule_local _ _ _))
    (λ e1. directed_rule_local _ _ _ tokens h)
