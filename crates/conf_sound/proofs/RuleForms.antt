-- Filter rules are read in form, and stand for no more flat rules than there is room for.
use Rattle.std.proofs.Common.{◌≡◌, ℕ, zero, suc, ◌*◌, ◌-◌, ◌/◌, ◌≤◌, Bool, true, false, eqb, List, [], ◌∷◌, codes, length, Option, Some, None, Ok, refl, sym, subst, arith}
use Rattle.std.proofs.Math.Nat.{le_trans, mul-le-mul_left, mul-div-le}
use Rattle.std.proofs.lemmas.Nat.{le-div}
use Rattle.net_base.specs.declared.addr.Family.TheVariants as families
use Rattle.net_base.specs.declared.conf.Counted.{Counted}
use Rattle.net_base.specs.declared.conf.Counted.TheVariants as counted
use Rattle.conf_tree.specs.declared.token.Token.{Token}
use Rattle.conf_tree.specs.declared.rule.Action.{Action}
use Rattle.conf_tree.specs.declared.rule.Direction.{Direction}
use Rattle.conf_tree.specs.declared.rule.Direction.TheVariants as ways
use Rattle.conf_tree.specs.declared.rule.PathPart.{PathPart}
use Rattle.conf_tree.specs.declared.rule.PathPart.TheVariants as parts
use Rattle.conf_tree.specs.declared.sets.PrefixRange.{PrefixRange}
use Rattle.conf_tree.specs.declared.draft.ConditionBlock.{ConditionBlock}
use Rattle.conf_tree.specs.declared.draft.ConditionBlock.TheVariants as conditions
use Rattle.conf_tree.specs.declared.draft.RuleBlock.{RuleBlock}
use Rattle.conf_tree.specs.Faults.{◌>>=◌}
use Rattle.conf_tree.specs.Reading.{behind, unexpected, word_is}
use Rattle.conf_tree.specs.Values.{lengths_at}
use Rattle.conf_tree.specs.RuleReading.{most_conditions, group_peer_at, as_peer_at, address_peer_at, one_peer_at, known_peer_at, peer_at, ranged_at, rule_prefix_at, counted_number_at, rule_number_at, Lists, with_prefixes, with_numbers, Condition, prefix_list_at, one_prefix_at, prefix_condition_at, prefix_set_condition_at, number_list_at, as_set_condition_at, one_number_at, path_condition_at, origin_set_condition_at, ovs_condition_at, community_condition_at, large_condition_at, max_as_len_condition_at, next_hop_condition_at, route_condition_at, plain_condition_at, other_condition_at, path_word_at, known_condition_at, condition_at, ends_conditions, conditions_at, factor, factors, flat_rules_of, place_of, rule_body_at, rib_rule_at, directed_rule_at, rule_at}
use Rattle.conf_tree.specs.Readable.{IsWithin, IsRange, IsPeer, least_as}
use Rattle.conf_sound.specs.InForm.{IsConditionBlock, HasRib, IsRuleBlock}
use Rattle.conf_sound.proofs.Finds.{AreGood, Finds, ok, err, bind, bind_rest, either, good_behind, reading}
use Rattle.conf_sound.proofs.ReadingForms.{IsMember, ReadsMembers, AreAtMost, one_more, unless_full_form, full_list_form, one_or_list_form, keyword_form}
use Rattle.conf_sound.proofs.ValueForms.{number_form, as_number_form, address_form, prefix_form, lengths_form, name_form, group_name_form, community_form, large_community_form}
use Rattle.conf_sound.proofs.ItemForms.{optional_set_form}

-- ---- peers

group_peer_form : (tokens : List Token) → AreGood tokens → Finds IsPeer (group_peer_at tokens)
unfolding group_peer_at
group_peer_form tokens g = bind _ _ (group_name_form tokens g) (λ name h rest. ok _ _ h rest)

as_peer_form : (tokens : List Token) → AreGood tokens → Finds IsPeer (as_peer_at tokens)
unfolding as_peer_at
as_peer_form tokens g = bind _ _ (as_number_form 1 tokens g) (λ asn h rest. ok _ _ h rest)

address_peer_form : (tokens : List Token) → AreGood tokens → Finds IsPeer (address_peer_at tokens)
unfolding address_peer_at
address_peer_form tokens g = bind _ _ (address_form tokens g) (λ address h rest. ok _ _ tt rest)

one_peer_form : (tokens : List Token) → AreGood tokens → Finds IsPeer (one_peer_at tokens)
unfolding one_peer_at
one_peer_form tokens g = search (reading, group_peer_form, as_peer_form, address_peer_form, g) depth 9

known_peer_form : (tokens : List Token) → AreGood tokens → Finds IsPeer (known_peer_at tokens)
unfolding known_peer_at
known_peer_form tokens g = search (reading, one_peer_form, g, tt) depth 9

peer_form : ReadsMembers IsPeer peer_at
unfolding peer_at
peer_form full tokens g = search (reading, unless_full_form IsPeer full counted.Rules tokens (known_peer_at tokens) (known_peer_form tokens g))

-- ---- lists of prefixes and AS numbers in rules

pub ranged_form : (full : Bool) (kind : Counted) (tokens : List Token) → AreGood tokens → Finds (IsMember IsRange full) (ranged_at full kind tokens)
unfolding ranged_at
ranged_form full kind tokens g = bind _ _ (prefix_form tokens g) (λ prefix u rest. unless_full_form IsRange full kind tokens (lengths_at prefix.0 prefix.1) (lengths_form prefix.0 prefix.1 rest))

rule_prefix_form : ReadsMembers IsRange rule_prefix_at
unfolding rule_prefix_at
rule_prefix_form full tokens g = ranged_form full counted.Rules tokens g

pub counted_number_form : (low : ℕ) (full : Bool) (kind : Counted) (tokens : List Token) → AreGood tokens → Finds (IsMember (IsWithin low 4294967295) full) (counted_number_at low full kind tokens)
unfolding counted_number_at
counted_number_form low full kind tokens g =
    bind _ _ (as_number_form low tokens g) (λ asn h rest. unless_full_form (IsWithin low 4294967295) full kind tokens (Ok (asn.0, asn.1)) (ok asn.0 asn.1 h rest))

rule_number_form : (low : ℕ) → ReadsMembers (IsWithin low 4294967295) (rule_number_at low)
unfolding rule_number_at
rule_number_form low full tokens g = counted_number_form low full counted.Rules tokens g

-- ---- conditions with lists

-- a condition takes its part of the room for flat rules, and leaves some for the conditions behind it
record Shares (lists : Lists) (found : Condition) : Type 0 where
  some : 1 ≤ lists.room → 1 ≤ found.1.room
  all : (n : ℕ) → n ≤ found.1.room → factor found.0 * n ≤ lists.room

abbrev IsFound : Lists → Condition → Type 0
IsFound lists found = IsConditionBlock found.0 × Shares lists found

-- a condition that doesn't multiply the flat rules
abbrev IsPlain : ConditionBlock → Type 0
IsPlain condition = IsConditionBlock condition × (factor condition ≡ 1)

no_list : IsPlain (conditions.Family families.V4)
no_list = (tt, refl)

some_left : (count room : ℕ) → 1 ≤ count → count ≤ room → 1 ≤ room / count
some_left count room some h = le-div 1 room count (omega (arith, some)) (omega (arith, h))

all_shared : (count room n : ℕ) → n ≤ room / count → count * n ≤ room
all_shared count room n h = le_trans (mul-le-mul_left count h) (mul-div-le room count)

module _ (lists : Lists) where
  keeps : (condition : ConditionBlock) → IsPlain condition → IsFound lists (condition, lists)
  keeps condition h = (h.0, record { some = λ some. some; all = λ n few. kept (factor condition) n h.1 few })
    where
      kept : (count n : ℕ) → count ≡ 1 → n ≤ lists.room → count * n ≤ lists.room
      kept count n e few = rw e (omega (arith, few))

  divides : (lists' : Lists) (condition : ConditionBlock) (count : ℕ) → IsConditionBlock condition → factor condition ≡ count → lists'.room ≡ lists.room / count → 1 ≤ count → count ≤ lists.room → IsFound lists (condition, lists')
  divides lists' condition count h same left some few = (
    h,
    record {
      some = λ some_room. subst (λ room. 1 ≤ room) (sym left) (some_left count lists.room some few);
      all = λ n at_most. subst (λ k. k * n ≤ lists.room) (sym same) (all_shared count lists.room n (subst (λ room. n ≤ room) left at_most));
    },
  )

  prefix_list_form : (tokens : List Token) → AreGood tokens → Finds (IsFound lists) (prefix_list_at lists tokens)
  unfolding prefix_list_at
  prefix_list_form tokens g =
      either lists.prefixes (unexpected tokens) _ (λ e. err _)
      (λ e. bind _ (λ (members : List PrefixRange × List Token). Ok ((conditions.Prefixes members.0, with_prefixes lists members.0), members.1))
      (full_list_form IsRange rule_prefix_at lists.room (behind tokens) rule_prefix_form (good_behind tokens g)) (λ members h rest. ok _ _ (divides (with_prefixes lists members.0) (conditions.Prefixes members.0) (length members.0) h.0.0 refl refl h.1 h.0.1) rest))

  one_prefix_form : (tokens : List Token) → AreGood tokens → Finds (IsFound lists) (one_prefix_at lists tokens)
  unfolding one_prefix_at
  one_prefix_form tokens g = bind _ _ (rule_prefix_form false tokens g) (λ entry h rest. ok _ _ (keeps (conditions.Prefixes (entry.0 ∷ [])) ((h.0, tt), refl)) rest)

  prefix_condition_form : (tokens : List Token) → AreGood tokens → Finds (IsFound lists) (prefix_condition_at lists tokens)
  unfolding prefix_condition_at
  prefix_condition_form tokens g = search (reading, prefix_list_form, one_prefix_form, g)

  prefix_set_condition_form : (tokens : List Token) → AreGood tokens → Finds (IsFound lists) (prefix_set_condition_at lists tokens)
  unfolding prefix_set_condition_at
  prefix_set_condition_form tokens g = bind _ _ (name_form tokens g)
      (λ name h rest. either (word_is (codes "or-longer") name.1) (Ok ((conditions.PrefixSetOrLonger name.0, lists), behind name.1)) (Ok ((conditions.PrefixSet name.0, lists), name.1))
      (λ e. ok _ _ (keeps (conditions.PrefixSetOrLonger name.0) (tt, refl)) (good_behind name.1 rest)) (λ e. ok _ _ (keeps (conditions.PrefixSet name.0) (tt, refl)) rest))

  module _ (part : PathPart) where
    abbrev pub low : ℕ
    low = least_as part

    number_list_form : (tokens : List Token) → AreGood tokens → Finds (IsFound lists) (number_list_at lists part (least_as part) tokens)
    unfolding number_list_at
    number_list_form tokens g =
        either lists.numbers (unexpected tokens) _ (λ e. err _)
        (λ e. bind _ (λ (members : List ℕ × List Token). Ok ((conditions.PathNumbers part members.0, with_numbers lists members.0), members.1))
        (full_list_form (IsWithin (least_as part) 4294967295) (rule_number_at (least_as part)) lists.room (behind tokens) (rule_number_form (least_as part)) (good_behind tokens g)) (λ members h rest. ok _ _ (divides (with_numbers lists members.0) (conditions.PathNumbers part members.0) (length members.0) h.0.0 refl refl h.1 h.0.1) rest))

    as_set_condition_form : (tokens : List Token) → AreGood tokens → Finds (IsFound lists) (as_set_condition_at lists part tokens)
    unfolding as_set_condition_at
    as_set_condition_form tokens g = bind _ _ (name_form tokens g) (λ name h rest. ok _ _ (keeps (conditions.PathSet part name.0) (tt, refl)) rest)

    one_number_form : (tokens : List Token) → AreGood tokens → Finds (IsFound lists) (one_number_at lists part (least_as part) tokens)
    unfolding one_number_at
    one_number_form tokens g = bind _ _ (as_number_form (least_as part) tokens g) (λ asn h rest. ok _ _ (keeps (conditions.PathNumbers part (asn.0 ∷ [])) ((h, tt), refl)) rest)

    path_condition_form : (tokens : List Token) → AreGood tokens → Finds (IsFound lists) (path_condition_at lists part (least_as part) tokens)
    unfolding path_condition_at
    path_condition_form tokens g = search (reading, number_list_form, as_set_condition_form, one_number_form, g) depth 9

-- ---- conditions without lists

origin_set_condition_form : (tokens : List Token) → AreGood tokens → Finds IsPlain (origin_set_condition_at tokens)
unfolding origin_set_condition_at
origin_set_condition_form tokens g = bind _ _ (name_form tokens g) (λ name h rest. ok _ _ (tt, refl) rest)

ovs_condition_form : (tokens : List Token) → AreGood tokens → Finds IsPlain (ovs_condition_at tokens)
unfolding ovs_condition_at
ovs_condition_form tokens g = search (reading, g, no_list) depth 9

community_condition_form : (tokens : List Token) → AreGood tokens → Finds IsPlain (community_condition_at tokens)
unfolding community_condition_at
community_condition_form tokens g = bind _ _ (community_form true tokens g) (λ pattern h rest. ok _ _ (h, refl) rest)

large_condition_form : (tokens : List Token) → AreGood tokens → Finds IsPlain (large_condition_at tokens)
unfolding large_condition_at
large_condition_form tokens g = bind _ _ (large_community_form true tokens g) (λ pattern h rest. ok _ _ (h, refl) rest)

max_as_len_condition_form : (tokens : List Token) → AreGood tokens → Finds IsPlain (max_as_len_condition_at tokens)
unfolding max_as_len_condition_at
max_as_len_condition_form tokens g = bind _ _ (number_form 0 1023 tokens g) (λ most h rest. ok _ _ (h, refl) rest)

next_hop_condition_form : (tokens : List Token) → AreGood tokens → Finds IsPlain (next_hop_condition_at tokens)
unfolding next_hop_condition_at
next_hop_condition_form tokens g = search (reading, address_form tokens g, no_list)

route_condition_form : (tokens : List Token) → AreGood tokens → Finds IsPlain (route_condition_at tokens)
unfolding route_condition_at
route_condition_form tokens g = search (reading, max_as_len_condition_form, next_hop_condition_form, g, no_list) depth 9

plain_condition_form : (tokens : List Token) → AreGood tokens → Finds IsPlain (plain_condition_at tokens)
unfolding plain_condition_at
plain_condition_form tokens g = search (reading, origin_set_condition_form, ovs_condition_form, community_condition_form, large_condition_form, route_condition_form, g) depth 9

-- ---- a condition by its word

module _ (lists : Lists) where
  other_condition_form : (tokens : List Token) → AreGood tokens → Finds (IsFound lists) (other_condition_at lists tokens)
  unfolding other_condition_at
  other_condition_form tokens g = bind _ _ (plain_condition_form tokens g) (λ condition h rest. ok _ _ (keeps lists condition.0 h) rest)

  path_word_form : (tokens : List Token) → AreGood tokens → Finds (IsFound lists) (path_word_at lists tokens)
  unfolding path_word_at
  path_word_form tokens g =
      search (reading, path_condition_form lists parts.Any, path_condition_form lists parts.Source, path_condition_form lists parts.Transit, path_condition_form lists parts.Peer, other_condition_form, g) depth 9

  known_condition_form : (tokens : List Token) → AreGood tokens → Finds (IsFound lists) (known_condition_at lists tokens)
  unfolding known_condition_at
  known_condition_form tokens g = search (reading, prefix_condition_form lists, prefix_set_condition_form lists, path_word_form, g) depth 9

  condition_form : (full : Bool) (tokens : List Token) → AreGood tokens → Finds (IsMember (IsFound lists) full) (condition_at lists full tokens)
  unfolding condition_at
  condition_form full tokens g = search (reading, unless_full_form (IsFound lists) full counted.Conditions tokens (known_condition_at lists tokens) (known_condition_form tokens g)) depth 9

-- conditions in form, at most so many, and flat rules of them at most as there is room for
abbrev AreShared : Lists → ℕ → List ConditionBlock → Type 0
AreShared lists most found = AreAtMost IsConditionBlock most found × (1 ≤ lists.room → factors found ≤ lists.room)

conditions_form : (lists : Lists) (room most : ℕ) (tokens : List Token) → AreGood tokens → Finds (AreShared lists room) (conditions_at lists room most tokens)
unfolding conditions_at factors
conditions_form lists room zero tokens g =
    let none : AreShared lists room [] = ((tt, omega arith), λ some. some) in
    search (reading, none, g)
conditions_form lists room (suc most) tokens g =
    let none : AreShared lists room [] = ((tt, omega arith), λ some. some) in
    let front : (x : Condition) (xs : List ConditionBlock) → IsMember (IsFound lists) (eqb room 0) x → AreShared x.1 (room - 1) xs → AreShared lists room (x.0 ∷ xs)
    = λ x xs p q. (((p.0.0, q.0.0), one_more room (length xs) p.1 q.0.1), λ some. p.0.1.all (factors xs) (q.1 (p.0.1.some some))) in
    either (ends_conditions tokens) (Ok ([], tokens))
    (condition_at lists (eqb room 0) tokens >>= λ first. conditions_at first.0.1 (room - 1) most first.1 >>= λ others. Ok (first.0.0 ∷ others.0, others.1))
    (λ e. ok _ _ none g)
    (λ e. bind _ _ (condition_form lists (eqb room 0) tokens g)
    (λ first p rest. bind _ _ (conditions_form first.0.1 (room - 1) most first.1 rest) (λ others q left. ok _ _ (front first.0 others.0 p q) left)))

-- ---- rules

-- a rule in form, and no more flat rules than there is room for
abbrev pub IsRuleWithin : ℕ → RuleBlock → Type 0
IsRuleWithin room rule = IsRuleBlock rule × (flat_rules_of rule ≤ room)

module _ (room : ℕ) (some : 1 ≤ room) (action : Action) (quick : Bool) where
  rule_body_form : (rib : Option (List ℕ)) (direction : Direction) (tokens : List Token) → HasRib direction rib → AreGood tokens → Finds (IsRuleWithin room) (rule_body_at room action quick rib direction tokens)
  unfolding rule_body_at
  rule_body_form rib direction tokens named g =
      bind _ _ (one_or_list_form IsPeer peer_at room room tokens (omega arith) some peer_form g)
      (λ peers p rest. bind _ _ (conditions_form (record { room = room / length peers.0; prefixes = false; numbers = false }) most_conditions (length peers.1) peers.1 rest)
      (λ found f left. bind _ _ (optional_set_form (place_of direction) found.1 left)
      (λ set s behind_set. ok _ _ (record { rib = named; peers = p.0.0; conditions = f.0.0; few = f.0.1; set = s }, all_shared (length peers.0) room (factors found.0) (f.1 (some_left (length peers.0) room p.1 p.0.1))) behind_set)))

  rib_rule_form : (tokens : List Token) → AreGood tokens → Finds (IsRuleWithin room) (rib_rule_at room action quick tokens)
  unfolding rib_rule_at
  rib_rule_form tokens g =
      bind _ _ (name_form tokens g) (λ name h rest. bind_rest _ _ (keyword_form (codes "from") name.1 rest) (λ after left. rule_body_form (Some name.0) ways.From after tt left))

  directed_rule_form : (tokens : List Token) → AreGood tokens → Finds (IsRuleWithin room) (directed_rule_at room action quick tokens)
  unfolding directed_rule_at
  directed_rule_form tokens g =
      search (reading, rib_rule_form (behind tokens) (good_behind tokens g), rule_body_form None ways.From (behind tokens) tt (good_behind tokens g), rule_body_form None ways.To (behind tokens) tt (good_behind tokens g)) depth 9

pub rule_form : (room : ℕ) → 1 ≤ room → (action : Action) (tokens : List Token) → AreGood tokens → Finds (IsRuleWithin room) (rule_at room action tokens)
unfolding rule_at
rule_form room some action tokens g = search (reading, directed_rule_form room some action true (behind tokens) (good_behind tokens g), directed_rule_form room some action false tokens g)
