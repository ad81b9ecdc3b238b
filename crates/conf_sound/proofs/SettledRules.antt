-- Each rule of a configuration names a group that has a neighbour, and sets that there are.
use Rattle.std.proofs.Common.{◌≡◌, ℕ, ◌+◌, ◌^◌, ◌<◌, Bool, true, false, cond, ◌||◌, nat_lt, List, [], ◌∷◌, length, map, Option, Some, None, refl, bytes_eq}
use Rattle.std.specs.Prelude.{option_map, option_and_then, option_to_list}
use Rattle.std.specs.List.{list_any, position_or_len}
use Rattle.std.proofs.lemmas.Bool.{not-false}
use Rattle.net_base.specs.declared.conf.ConfKind.TheVariants.{UnknownName}
use Rattle.conf_tree.specs.declared.draft.ConditionBlock.{ConditionBlock}
use Rattle.conf_tree.specs.declared.draft.ConditionBlock.TheVariants as block
use Rattle.conf_tree.specs.declared.draft.RuleBlock.{RuleBlock}
use Rattle.conf_tree.specs.declared.draft.Statement.{Statement}
use Rattle.conf_tree.specs.declared.draft.Statement.TheVariants as says
use Rattle.conf_tree.specs.declared.draft.StatementLine.{StatementLine}
use Rattle.conf_tree.specs.declared.rule.Condition.{Condition}
use Rattle.conf_tree.specs.declared.rule.Condition.TheVariants as conds
use Rattle.conf_tree.specs.declared.rule.Peer.{Peer}
use Rattle.conf_tree.specs.declared.rule.Peer.TheVariants as peers
use Rattle.conf_tree.specs.declared.sets.AsSetConf.{AsSetConf}
use Rattle.conf_tree.specs.declared.sets.OriginSetConf.{OriginSetConf}
use Rattle.conf_tree.specs.declared.sets.PrefixRange.{PrefixRange}
use Rattle.conf_tree.specs.declared.sets.PrefixSetConf.{PrefixSetConf}
use Rattle.conf_tree.specs.declared.sets.SetId.{SetId}
use Rattle.conf_tree.specs.declared.sets.SetKind.{SetKind}
use Rattle.conf_tree.specs.declared.sets.SetKind.TheVariants as kinds
use Rattle.conf_tree.specs.Said.{said, rule_of}
use Rattle.conf_tree.specs.Flat.{below, place_of, set_id, prefix_set_id, as_set_id, origin_set_id, placed, frame_of, ways, choices, flat_conditions, rule_with, flat_rules, rules_of, flat}
use Rattle.conf_tree.specs.Checks.{double_neighbour, fault_at, groups_of, is_unknown_rib, is_unknown_peer, is_unknown_set, has_unknown, is_unknown_rule, unknown_neighbour, unknown_rule, unknown_name}
use Rattle.conf_tree.specs.Readable.{Each, IfThere}
use Rattle.conf_tree.specs.Settled.{IsKnownPeer, IsKnownSet, IsKnownCondition, IsKnownRule}
use Rattle.conf_sound.proofs.Lists.{each_map, each_filter_map, each_flat_map, then_form, map_form, AreChosen, choices_form, map_none, find_none}
use Rattle.conf_sound.proofs.FlatForms.{below_length}
use Rattle.conf_sound.proofs.SettledNames.{neither, no_line}
use Rattle.conf_sound.proofs.SettledNeighbours.{group_there}

-- ---- what the check of names leaves

-- the rule names nothing that there isn't
abbrev HasKnownNames : List StatementLine → RuleBlock → Type 0
HasKnownNames lines rule = has_unknown (frame_of lines) (groups_of lines) rule ≡ false

known_lines : (lines : List StatementLine) → unknown_name (frame_of lines) lines ≡ None → Each (λ l. is_unknown_rule (frame_of lines) (groups_of lines) l.statement ≡ false) lines
unfolding unknown_name unknown_rule
known_lines lines e =
    find_none (λ l. is_unknown_rule (frame_of lines) (groups_of lines) l.statement) lines
    (map_none (λ l. l.line) _ (no_line (unknown_neighbour (frame_of lines) (placed lines)) (unknown_rule (frame_of lines) lines) (map_none (fault_at UnknownName) _ e)).1)

known_rules : (lines : List StatementLine) → unknown_name (frame_of lines) lines ≡ None → Each (HasKnownNames lines) (said rule_of lines)
known_rules lines e =
    each_filter_map (λ (l : StatementLine). is_unknown_rule (frame_of lines) (groups_of lines) l.statement ≡ false) (HasKnownNames lines) (λ l. rule_of l.statement) lines (λ l h. given l.statement h) (known_lines lines e)
  where
    given : (s : Statement) → is_unknown_rule (frame_of lines) (groups_of lines) s ≡ false → IfThere (HasKnownNames lines) (rule_of s)
    given (says.Rule rule) h = h
    given _ h = tt

no_such : {A : Type 0} (test : A → Bool) (xs : List A) → list_any test xs ≡ false → Each (λ x. test x ≡ false) xs
no_such test [] e = tt
no_such test (x ∷ xs) e =
    let parts = neither (test x) (list_any test xs) e in
    (parts.0, no_such test xs parts.1)

known_peers : (lines : List StatementLine) (rule : RuleBlock) → HasKnownNames lines rule → Each (λ peer. is_unknown_peer (groups_of lines) peer ≡ false) rule.peers
unfolding has_unknown
known_peers lines rule e =
    let unknown_peer = list_any (is_unknown_peer (groups_of lines)) rule.peers in
    let unknown_set = list_any (is_unknown_set (frame_of lines)) rule.conditions in
    let front = neither (is_unknown_rib (frame_of lines) rule.rib || unknown_peer) unknown_set e in
    no_such (is_unknown_peer (groups_of lines)) rule.peers (neither (is_unknown_rib (frame_of lines) rule.rib) unknown_peer front.0).1

-- ---- sets

place_inside : {S : Type 0} (name : S → List ℕ) (sets : List S) (wanted : List ℕ) → IfThere (λ k. k < length sets) (place_of name sets wanted)
place_inside name sets wanted = by (nat_lt (position_or_len (λ s. bytes_eq wanted (name s)) sets) (length sets)) refl
  where
    by : (b : Bool) → nat_lt (position_or_len (λ s. bytes_eq wanted (name s)) sets) (length sets) ≡ b → IfThere (λ k. k < length sets) (cond b (Some (position_or_len (λ s. bytes_eq wanted (name s)) sets)) None)
    by true e = below_length _ _ e
    by false e = tt

-- a place below the count that is a number of 32 bits
below_both : (count n : ℕ) → n < count → IfThere (λ k. (k < count) × (k < 2 ^ 32)) (below (2 ^ 32) n)
below_both count n inside = by (nat_lt n (2 ^ 32)) refl
  where
    by : (b : Bool) → nat_lt n (2 ^ 32) ≡ b → IfThere (λ k. (k < count) × (k < 2 ^ 32)) (cond b (Some n) None)
    by true e = (inside, below_length n (2 ^ 32) e)
    by false e = tt

-- a set of this kind at a place of 32 bits below the count of its sets
record IsPlaceOf (kind : SetKind) (count : ℕ) (id : SetId) : Type 0 where
  of_kind : id.kind ≡ kind
  inside : id.at < count
  short : id.at < 2 ^ 32

set_inside : {S : Type 0} (kind : SetKind) (name : S → List ℕ) (sets : List S) (wanted : List ℕ) → IfThere (IsPlaceOf kind (length sets)) (set_id kind name sets wanted)
set_inside kind name sets wanted =
    map_form (λ k. (k < length sets) × (k < 2 ^ 32)) (IsPlaceOf kind (length sets)) (λ place. record { kind = kind; at = place }) (option_and_then (below (2 ^ 32)) (place_of name sets wanted))
    (λ k h. record { of_kind = refl; inside = h.0; short = h.1 })
    (then_form (λ k. k < length sets) (λ k. (k < length sets) × (k < 2 ^ 32)) (below (2 ^ 32)) (place_of name sets wanted) (λ k h. below_both (length sets) k h) (place_inside name sets wanted))

if_known : {A : Type 0} (Is Now : A → Type 0) (o : Option A) → ((x : A) → Is x → Now x) → IfThere Is o → IfThere Now o
if_known Is Now None w h = tt
if_known Is Now (Some x) w h = w x h

module _ (lines : List StatementLine) where
  prefix_set_known : (wanted : List ℕ) → IfThere (IsKnownSet (flat lines) kinds.Prefix) (prefix_set_id (frame_of lines) wanted)
  unfolding prefix_set_id flat
  prefix_set_known wanted =
      if_known (IsPlaceOf kinds.Prefix (length (frame_of lines).prefix_sets)) (IsKnownSet (flat lines) kinds.Prefix) (prefix_set_id (frame_of lines) wanted)
      (λ id h. (record { of_kind = h.of_kind; «there» = h.inside }, h.short)) (set_inside kinds.Prefix (λ (s : PrefixSetConf). s.name) (frame_of lines).prefix_sets wanted)

  as_set_known : (wanted : List ℕ) → IfThere (IsKnownSet (flat lines) kinds.As) (as_set_id (frame_of lines) wanted)
  unfolding as_set_id flat
  as_set_known wanted =
      if_known (IsPlaceOf kinds.As (length (frame_of lines).as_sets)) (IsKnownSet (flat lines) kinds.As) (as_set_id (frame_of lines) wanted)
      (λ id h. (record { of_kind = h.of_kind; «there» = h.inside }, h.short)) (set_inside kinds.As (λ (s : AsSetConf). s.name) (frame_of lines).as_sets wanted)

  origin_set_known : (wanted : List ℕ) → IfThere (IsKnownSet (flat lines) kinds.Origin) (origin_set_id (frame_of lines) wanted)
  unfolding origin_set_id flat
  origin_set_known wanted =
      if_known (IsPlaceOf kinds.Origin (length (frame_of lines).origin_sets)) (IsKnownSet (flat lines) kinds.Origin) (origin_set_id (frame_of lines) wanted)
      (λ id h. (record { of_kind = h.of_kind; «there» = h.inside }, h.short)) (set_inside kinds.Origin (λ (s : OriginSetConf). s.name) (frame_of lines).origin_sets wanted)

  -- ---- conditions

  abbrev IsKnown : Condition → Type 0
  IsKnown c = IsKnownCondition (flat lines) c

  one_way : {A : Type 0} (Is : A → Type 0) (make : A → Condition) (o : Option A) → ((x : A) → Is x → IsKnown (make x)) → IfThere Is o → Each (Each IsKnown) (option_to_list (option_map make o) ∷ [])
  one_way Is make None w h = (tt, tt)
  one_way Is make (Some x) w h = ((w x h, tt), tt)

  -- conditions without sets
  each_free : {A : Type 0} (make : A → Condition) (xs : List A) → ((x : A) → IsKnown (make x)) → Each IsKnown (map make xs)
  each_free make [] w = tt
  each_free make (x ∷ xs) w = (w x, each_free make xs w)

  each_alone : (entries : List PrefixRange) → Each (Each IsKnown) (map (λ entry. conds.Prefix entry ∷ []) entries)
  each_alone [] = tt
  each_alone (entry ∷ entries) = ((tt, tt), each_alone entries)

  ways_known : (c : ConditionBlock) → Each (Each IsKnown) (ways (frame_of lines) c)
  unfolding ways
  ways_known (block.Prefixes entries) = each_alone entries
  ways_known (block.PrefixSet name) = one_way (IsKnownSet (flat lines) kinds.Prefix) conds.PrefixSet (prefix_set_id (frame_of lines) name) (λ id k. k) (prefix_set_known name)
  ways_known (block.PrefixSetOrLonger name) = one_way (IsKnownSet (flat lines) kinds.Prefix) conds.PrefixSetOrLonger (prefix_set_id (frame_of lines) name) (λ id k. k) (prefix_set_known name)
  ways_known (block.PathNumbers part numbers) = (each_free (conds.PathNumber part) numbers (λ n. tt), tt)
  ways_known (block.PathSet part name) = one_way (IsKnownSet (flat lines) kinds.As) (conds.PathSet part) (as_set_id (frame_of lines) name) (λ id k. k) (as_set_known name)
  ways_known (block.OriginSet name) = one_way (IsKnownSet (flat lines) kinds.Origin) conds.OriginSet (origin_set_id (frame_of lines) name) (λ id k. k) (origin_set_known name)
  ways_known _ = ((tt, tt), tt)

  all_known : (cs : List ConditionBlock) → Each (Each (Each IsKnown)) (map (ways (frame_of lines)) cs)
  all_known [] = tt
  all_known (c ∷ cs) = (ways_known c, all_known cs)

  chosen_known : (n : ℕ) (fronts : List (List Condition)) → Each (AreChosen IsKnown n) fronts → Each (Each IsKnown) fronts
  chosen_known n [] h = tt
  chosen_known n (front ∷ fronts) h = (h.0.0, chosen_known n fronts h.1)

  conditions_known : (cs : List ConditionBlock) → Each (Each IsKnown) (flat_conditions (frame_of lines) cs)
  unfolding flat_conditions
  conditions_known cs =
      let lists : List (List (List Condition)) = map (ways (frame_of lines)) cs in
      each_flat_map (AreChosen (Each IsKnown) (0 + length lists)) (Each IsKnown) choices (choices lists)
      (λ chosen h. chosen_known (0 + length chosen) (choices chosen) (choices_form IsKnown chosen h.0)) (choices_form (Each IsKnown) lists (all_known cs))

  -- ---- rules

  peer_known : (peer : Peer) → double_neighbour (placed lines) ≡ None → is_unknown_peer (groups_of lines) peer ≡ false → IsKnownPeer (flat lines) peer
  unfolding flat
  peer_known (peers.Group name) e h = group_there (frame_of lines) name lines e (not-false (list_any (bytes_eq name) (groups_of lines)) h)
  peer_known _ e h = tt

  rule_known : (rule : RuleBlock) (peer : Peer) (found : List Condition) → IsKnownPeer (flat lines) peer → Each IsKnown found → IsKnownRule (flat lines) (rule_with (frame_of lines) rule peer found)
  unfolding rule_with
  rule_known rule peer found h k = (h, k)

  flat_rules_known : (rule : RuleBlock) → double_neighbour (placed lines) ≡ None → HasKnownNames lines rule → Each (IsKnownRule (flat lines)) (flat_rules (frame_of lines) rule)
  unfolding flat_rules
  flat_rules_known rule e h =
      each_flat_map (λ peer. is_unknown_peer (groups_of lines) peer ≡ false) (IsKnownRule (flat lines)) (λ peer. map (rule_with (frame_of lines) rule peer) (flat_conditions (frame_of lines) rule.conditions)) rule.peers
      (λ peer p. each_map (Each IsKnown) (IsKnownRule (flat lines)) (rule_with (frame_of lines) rule peer) (flat_conditions (frame_of lines) rule.conditions)
      (λ found k. rule_known rule peer found (peer_known peer e p) k) (conditions_known rule.conditions)) (known_peers lines rule h)

  pub rules_known : double_neighbour (placed lines) ≡ None → unknown_name (frame_of lines) lines ≡ None → Each (IsKnownRule (flat lines)) (rules_of (frame_of lines) lines)
  unfolding rules_of
  rules_known e h = each_flat_map (HasKnownNames lines) (IsKnownRule (flat lines)) (flat_rules (frame_of lines)) (said rule_of lines) (λ rule k. flat_rules_known rule e k) (known_rules lines h)
