-- Filter rules as they are written.
use Rattle.std.specs.Prelude.{ℕ, zero, suc, ◌*◌, ◌-◌, ◌/◌, Bool, true, false, ◌||◌, List, [], ◌∷◌, length, Option, None, Some, Ok, is_some, if◌then◌else◌, ◌==◌, codes}
use Rattle.net_base.specs.declared.conf.ConfKind.TheVariants.{NotInProfile}
use Rattle.net_base.specs.declared.conf.Counted.{Counted}
use Rattle.net_base.specs.declared.conf.Counted.TheVariants as counted
use Rattle.net_base.specs.declared.addr.Family.TheVariants as families
use Rattle.net_base.specs.declared.roa.Ovs.TheVariants as ovs
use Rattle.conf_tree.specs.declared.token.Token.{Token}
use Rattle.conf_tree.specs.declared.sets.PrefixRange.{PrefixRange}
use Rattle.conf_tree.specs.declared.rule.Action.{Action}
use Rattle.conf_tree.specs.declared.rule.Direction.{Direction}
use Rattle.conf_tree.specs.declared.rule.Direction.TheVariants as ways
use Rattle.conf_tree.specs.declared.rule.Peer.{Peer}
use Rattle.conf_tree.specs.declared.rule.Peer.TheVariants as peers
use Rattle.conf_tree.specs.declared.rule.PathPart.{PathPart}
use Rattle.conf_tree.specs.declared.rule.PathPart.TheVariants as parts
use Rattle.conf_tree.specs.declared.draft.ConditionBlock.{ConditionBlock}
use Rattle.conf_tree.specs.declared.draft.ConditionBlock.TheVariants as conditions
use Rattle.conf_tree.specs.declared.draft.RuleBlock.{RuleBlock}
use Rattle.conf_tree.specs.declared.draft.SetPlace.{SetPlace}
use Rattle.conf_tree.specs.declared.draft.SetPlace.TheVariants as places
use Rattle.conf_tree.specs.declared.room.Lists.{Lists as lists_left}
use Rattle.conf_tree.specs.Faults.{◌>>=◌}
use Rattle.conf_tree.specs.Reading.{Reading, Member, fails, unexpected, behind, word_is, word_in, mark_is, ends_line, keyword_at, unless_full, full_list_at, one_or_list_at}
use Rattle.conf_tree.specs.Values.{number_at, as_number_at, address_of, address_at, prefix_at, lengths_at, name_at, group_name_at, community_at, large_community_at}
use Rattle.conf_tree.specs.ItemReading.{left_out_of_rules, optional_set_at}

-- the most conditions of a rule
abbrev pub most_conditions : ℕ
most_conditions = 16

-- ---- peers

unfoldable pub group_peer_at : List Token → Reading Peer
group_peer_at tokens = do
  name ← group_name_at tokens
  Ok (peers.Group name.0, name.1)

unfoldable pub as_peer_at : List Token → Reading Peer
as_peer_at tokens = do
  asn ← as_number_at 1 tokens
  Ok (peers.As asn.0, asn.1)

unfoldable pub address_peer_at : List Token → Reading Peer
address_peer_at tokens = do
  address ← address_at tokens
  Ok (peers.Address address.0, address.1)

-- a peer that isn't one of the words for many
unfoldable pub one_peer_at : List Token → Reading Peer
one_peer_at tokens =
    if word_is (codes "group") tokens then group_peer_at (behind tokens)
    else (if word_is (codes "AS") tokens then as_peer_at (behind tokens)
    else address_peer_at tokens)

unfoldable pub known_peer_at : List Token → Reading Peer
known_peer_at tokens =
    if word_is (codes "any") tokens then Ok (peers.Any, behind tokens)
    else (if word_is (codes "ebgp") tokens then Ok (peers.Ebgp, behind tokens)
    else (if word_is (codes "ibgp") tokens then Ok (peers.Ibgp, behind tokens)
    else one_peer_at tokens))

-- what a peer begins with
abbrev pub peer_words : List (List ℕ)
peer_words = codes "any" ∷ codes "ebgp" ∷ codes "ibgp" ∷ codes "group" ∷ codes "AS" ∷ []

unfoldable pub begins_peer : List Token → Bool
begins_peer tokens = word_in peer_words tokens || is_some (address_of tokens)

unfoldable pub peer_at : Member Peer
peer_at full tokens = if begins_peer tokens then unless_full full counted.Rules tokens (known_peer_at tokens) else unexpected tokens

-- ---- lists of prefixes and AS numbers in rules

-- the lengths behind a prefix, unless the list has no room for it
unfoldable pub ranged_at : Bool → Counted → List Token → Reading PrefixRange
ranged_at full kind tokens = do
  prefix ← prefix_at tokens
  unless_full full kind tokens (lengths_at prefix.0 prefix.1)

unfoldable pub rule_prefix_at : Member PrefixRange
rule_prefix_at full tokens = ranged_at full counted.Rules tokens

-- a number, unless the list has no room for it
unfoldable pub counted_number_at : ℕ → Bool → Counted → List Token → Reading ℕ
counted_number_at low full kind tokens = do
  asn ← as_number_at low tokens
  unless_full full kind tokens (Ok (asn.0, asn.1))

unfoldable pub rule_number_at : ℕ → Member ℕ
rule_number_at low full tokens = counted_number_at low full counted.Rules tokens

-- ---- conditions

-- what the lists of a rule leave to the next one
abbrev pub Lists : Type 0
Lists = lists_left

abbrev pub with_prefixes : Lists → List PrefixRange → Lists
with_prefixes lists members = record { room = lists.room / length members; prefixes = true; numbers = lists.numbers }

abbrev pub with_numbers : Lists → List ℕ → Lists
with_numbers lists members = record { room = lists.room / length members; prefixes = lists.prefixes; numbers = true }

-- a condition, and what it leaves to the lists behind it
abbrev pub Condition : Type 0
Condition = ConditionBlock × Lists

-- a list of prefixes in braces; a rule has one at most
unfoldable pub prefix_list_at : Lists → List Token → Reading Condition
prefix_list_at lists tokens =
    if lists.prefixes then unexpected tokens
    else (do
      members ← full_list_at rule_prefix_at lists.room (behind tokens)
      Ok ((conditions.Prefixes members.0, with_prefixes lists members.0), members.1))

unfoldable pub one_prefix_at : Lists → List Token → Reading Condition
one_prefix_at lists tokens = do
  entry ← rule_prefix_at false tokens
  Ok ((conditions.Prefixes (entry.0 ∷ []), lists), entry.1)

unfoldable pub prefix_condition_at : Lists → List Token → Reading Condition
prefix_condition_at lists tokens = if mark_is (codes "{") tokens then prefix_list_at lists tokens else one_prefix_at lists tokens

unfoldable pub prefix_set_condition_at : Lists → List Token → Reading Condition
prefix_set_condition_at lists tokens = do
  name ← name_at tokens
  if word_is (codes "or-longer") name.1
      then Ok ((conditions.PrefixSetOrLonger name.0, lists), behind name.1)
      else Ok ((conditions.PrefixSet name.0, lists), name.1)

-- a list of AS numbers in braces; a rule has one at most, whatever they ask for
unfoldable pub number_list_at : Lists → PathPart → ℕ → List Token → Reading Condition
number_list_at lists part low tokens =
    if lists.numbers then unexpected tokens
    else (do
      members ← full_list_at (rule_number_at low) lists.room (behind tokens)
      Ok ((conditions.PathNumbers part members.0, with_numbers lists members.0), members.1))

unfoldable pub as_set_condition_at : Lists → PathPart → List Token → Reading Condition
as_set_condition_at lists part tokens = do
  name ← name_at tokens
  Ok ((conditions.PathSet part name.0, lists), name.1)

unfoldable pub one_number_at : Lists → PathPart → ℕ → List Token → Reading Condition
one_number_at lists part low tokens = do
  asn ← as_number_at low tokens
  Ok ((conditions.PathNumbers part (asn.0 ∷ []), lists), asn.1)

-- what stands behind `AS` and its like
unfoldable pub path_condition_at : Lists → PathPart → ℕ → List Token → Reading Condition
path_condition_at lists part low tokens =
    if mark_is (codes "{") tokens then number_list_at lists part low tokens
    else (if word_is (codes "as-set") tokens then as_set_condition_at lists part (behind tokens)
    else one_number_at lists part low tokens)

-- ---- conditions without lists

unfoldable pub origin_set_condition_at : List Token → Reading ConditionBlock
origin_set_condition_at tokens = do
  name ← name_at tokens
  Ok (conditions.OriginSet name.0, name.1)

unfoldable pub ovs_condition_at : List Token → Reading ConditionBlock
ovs_condition_at tokens =
    if word_is (codes "valid") tokens then Ok (conditions.Ovs ovs.Valid, behind tokens)
    else (if word_is (codes "invalid") tokens then Ok (conditions.Ovs ovs.Invalid, behind tokens)
    else (if word_is (codes "not-found") tokens then Ok (conditions.Ovs ovs.NotFound, behind tokens)
    else unexpected tokens))

unfoldable pub community_condition_at : List Token → Reading ConditionBlock
community_condition_at tokens = do
  pattern ← community_at true tokens
  Ok (conditions.Community pattern.0, pattern.1)

unfoldable pub large_condition_at : List Token → Reading ConditionBlock
large_condition_at tokens = do
  pattern ← large_community_at true tokens
  Ok (conditions.LargeCommunity pattern.0, pattern.1)

unfoldable pub max_as_len_condition_at : List Token → Reading ConditionBlock
max_as_len_condition_at tokens = do
  most ← number_at 0 1023 tokens
  Ok (conditions.MaxAsLen most.0, most.1)

unfoldable pub next_hop_condition_at : List Token → Reading ConditionBlock
next_hop_condition_at tokens =
    if word_in (codes "blackhole" ∷ codes "reject" ∷ []) tokens then fails NotInProfile tokens
    else (do
      address ← address_at tokens
      Ok (conditions.NextHop address.0, address.1))

-- conditions on a number, an address or the family
unfoldable pub route_condition_at : List Token → Reading ConditionBlock
route_condition_at tokens =
    if word_is (codes "max-as-len") tokens then max_as_len_condition_at (behind tokens)
    else (if word_is (codes "nexthop") tokens then next_hop_condition_at (behind tokens)
    else (if word_is (codes "inet") tokens then Ok (conditions.Family families.V4, behind tokens)
    else Ok (conditions.Family families.V6, behind tokens)))

-- conditions on the origin and on communities, and the others without lists
unfoldable pub plain_condition_at : List Token → Reading ConditionBlock
plain_condition_at tokens =
    if word_is (codes "origin-set") tokens then origin_set_condition_at (behind tokens)
    else (if word_is (codes "ovs") tokens then ovs_condition_at (behind tokens)
    else (if word_is (codes "community") tokens then community_condition_at (behind tokens)
    else (if word_is (codes "large-community") tokens then large_condition_at (behind tokens)
    else route_condition_at tokens)))

-- ---- a condition by its word

abbrev pub condition_words : List (List ℕ)
condition_words =
    codes "prefix" ∷ codes "prefix-set" ∷ codes "AS" ∷ codes "source-as" ∷ codes "transit-as" ∷ codes "peer-as" ∷ codes "origin-set"
    ∷ codes "ovs" ∷ codes "community" ∷ codes "large-community" ∷ codes "max-as-len" ∷ codes "nexthop" ∷ codes "inet" ∷ codes "inet6" ∷ []

unfoldable pub other_condition_at : Lists → List Token → Reading Condition
other_condition_at lists tokens = do
  condition ← plain_condition_at tokens
  Ok ((condition.0, lists), condition.1)

-- conditions on the path, and those without lists
unfoldable pub path_word_at : Lists → List Token → Reading Condition
path_word_at lists tokens =
    if word_is (codes "AS") tokens then path_condition_at lists parts.Any 1 (behind tokens)
    else (if word_is (codes "source-as") tokens then path_condition_at lists parts.Source 0 (behind tokens)
    else (if word_is (codes "transit-as") tokens then path_condition_at lists parts.Transit 1 (behind tokens)
    else (if word_is (codes "peer-as") tokens then path_condition_at lists parts.Peer 1 (behind tokens)
    else other_condition_at lists tokens)))

-- conditions on the prefix, and the others
unfoldable pub known_condition_at : Lists → List Token → Reading Condition
known_condition_at lists tokens =
    if word_is (codes "prefix") tokens then prefix_condition_at lists (behind tokens)
    else (if word_is (codes "prefix-set") tokens then prefix_set_condition_at lists (behind tokens)
    else path_word_at lists tokens)

unfoldable pub condition_at : Lists → Bool → List Token → Reading Condition
condition_at lists full tokens =
    if word_in left_out_of_rules tokens then fails NotInProfile tokens
    else (if word_in condition_words tokens then unless_full full counted.Conditions tokens (known_condition_at lists tokens)
    else unexpected tokens)

-- the conditions end at `set` and at the end of the line
unfoldable pub ends_conditions : List Token → Bool
ends_conditions tokens = word_is (codes "set") tokens || ends_line tokens

-- The conditions of a rule, with room for so many. There are no more of them than tokens.
unfoldable pub conditions_at : Lists → ℕ → ℕ → List Token → Reading (List ConditionBlock)
conditions_at lists room zero tokens = if ends_conditions tokens then Ok ([], tokens) else unexpected tokens
conditions_at lists room (suc most) tokens =
    if ends_conditions tokens then Ok ([], tokens)
    else (do
      first ← condition_at lists (room == 0) tokens
      others ← conditions_at first.0.1 (room - 1) most first.1
      Ok (first.0.0 ∷ others.0, others.1))

-- ---- rules

-- an optional word, and whether it stands there
abbrev pub optional_word : List ℕ → List Token → Bool × List Token
optional_word name tokens = if word_is name tokens then (true, behind tokens) else (false, tokens)

abbrev pub place_of : Direction → SetPlace
place_of ways.From = places.FromRule
place_of ways.To = places.ToRule

-- what stands behind `from` or `to`, where a rule may stand for so many flat ones
unfoldable pub rule_body_at : ℕ → Action → Bool → Option (List ℕ) → Direction → List Token → Reading RuleBlock
rule_body_at room action quick rib direction tokens = do
  peers ← one_or_list_at peer_at room tokens
  found ← conditions_at (record { room = room / length peers.0; prefixes = false; numbers = false }) most_conditions (length peers.1) peers.1
  set ← optional_set_at (place_of direction) found.1
  Ok (record { action = action; quick = quick; rib = rib; direction = direction; peers = peers.0; conditions = found.0; set = set.0 }, set.1)

-- a rule of one RIB, behind `rib`
unfoldable pub rib_rule_at : ℕ → Action → Bool → List Token → Reading RuleBlock
rib_rule_at room action quick tokens = do
  name ← name_at tokens
  rest ← keyword_at (codes "from") name.1
  rule_body_at room action quick (Some name.0) ways.From rest

-- behind `quick`, or behind the action where that is missing
unfoldable pub directed_rule_at : ℕ → Action → Bool → List Token → Reading RuleBlock
directed_rule_at room action quick tokens =
    if word_is (codes "rib") tokens then rib_rule_at room action quick (behind tokens)
    else (if word_is (codes "from") tokens then rule_body_at room action quick None ways.From (behind tokens)
    else (if word_is (codes "to") tokens then rule_body_at room action quick None ways.To (behind tokens)
    else unexpected tokens))

-- behind the action
unfoldable pub rule_at : ℕ → Action → List Token → Reading RuleBlock
rule_at room action tokens =
    if word_is (codes "quick") tokens then directed_rule_at room action true (behind tokens) else directed_rule_at room action false tokens

-- how many flat rules a rule stands for
abbrev pub factor : ConditionBlock → ℕ
factor (conditions.Prefixes entries) = length entries
factor (conditions.PathNumbers part numbers) = length numbers
factor (conditions.PrefixSet name) = 1
factor (conditions.PrefixSetOrLonger name) = 1
factor (conditions.PathSet part name) = 1
factor (conditions.OriginSet name) = 1
factor (conditions.Ovs state) = 1
factor (conditions.Community pattern) = 1
factor (conditions.LargeCommunity pattern) = 1
factor (conditions.MaxAsLen most) = 1
factor (conditions.NextHop address) = 1
factor (conditions.Family family) = 1

unfoldable pub factors : List ConditionBlock → ℕ
factors [] = 1
factors (condition ∷ others) = factor condition * factors others

abbrev pub flat_rules_of : RuleBlock → ℕ
flat_rules_of rule = length rule.peers * factors rule.conditions
