-- A rule stands for no more flat rules than its lists of peers, prefixes and AS numbers give choices.
use Rattle.std.proofs.Common.{◌≡◌, ◌∙◌, ℕ, ◌+◌, ◌*◌, ◌≤◌, List, [], ◌∷◌, ◌++◌, length, map, flat_map, fold, Option, Some, None, refl, sym, ap, arith}
use Rattle.std.specs.Prelude.{option_map, option_to_list}
use Rattle.std.proofs.Math.Nat.{mul_comm, mul_assoc, mul-le-mul, mul-le-mul_left}
use Rattle.conf_tree.specs.declared.conf.Conf.{Conf}
use Rattle.conf_tree.specs.declared.draft.ConditionBlock.{ConditionBlock}
use Rattle.conf_tree.specs.declared.draft.ConditionBlock.TheVariants as block
use Rattle.conf_tree.specs.declared.draft.RuleBlock.{RuleBlock}
use Rattle.conf_tree.specs.declared.draft.StatementLine.{StatementLine}
use Rattle.conf_tree.specs.declared.rule.Condition.{Condition}
use Rattle.conf_tree.specs.declared.rule.Condition.TheVariants as conds
use Rattle.conf_tree.specs.declared.rule.Peer.{Peer}
use Rattle.conf_tree.specs.declared.rule.Rule.{Rule}
use Rattle.conf_tree.specs.Said.{said, rule_of}
use Rattle.conf_tree.specs.Flat.{prefix_set_id, as_set_id, origin_set_id, ways, followed_by, chosen, choices, flat_conditions, rule_with, flat_rules, rules_of}
use Rattle.conf_tree.specs.RuleReading.{factor, factors, flat_rules_of}
use Rattle.conf_tree.specs.Readable.{total}
use Rattle.conf_sound.proofs.Totals.{total_same, total_le, total_ones, total_times, total_map, total_flat_map}

pub length_flat_map : {A B : Type 0} (f : A → List B) (xs : List A) → length (flat_map f xs) ≡ total (λ x. length (f x)) xs
length_flat_map {A} {B} f xs =
    sym (total_ones (flat_map f xs)) ∙ total_flat_map (λ (y : B). 1) f xs ∙ total_same (λ x. total (λ (y : B). 1) (f x)) (λ x. length (f x)) xs (λ x. total_ones (f x))

pub length_mapped : {A B : Type 0} (f : A → B) (xs : List A) → length (map f xs) ≡ length xs
length_mapped {A} {B} f xs = sym (total_ones (map f xs)) ∙ total_map (λ (y : B). 1) f xs ∙ total_ones xs

total_constant : {A : Type 0} (k : ℕ) (xs : List A) → total (λ x. k) xs ≡ k * length xs
total_constant k xs = total_same (λ x. k) (λ x. k * 1) xs (λ x. omega arith) ∙ total_times k (λ x. 1) xs ∙ ap (λ n. k * n) (total_ones xs)

-- ---- choices of one member from each list

-- the numbers of all entries, multiplied
abbrev volume : {A : Type 0} → (A → ℕ) → List A → ℕ
volume count [] = 1
volume count (x ∷ xs) = count x * volume count xs

module _ {A : Type 0} where
  volume_ones : (xs : List A) → volume (λ x. 1) xs ≡ 1
  volume_ones [] = refl
  volume_ones (x ∷ xs) = omega (arith, volume_ones xs)

  volume_same : (f g : A → ℕ) (xs : List A) → ((x : A) → f x ≡ g x) → volume f xs ≡ volume g xs
  volume_same f g [] h = refl
  volume_same f g (x ∷ xs) h = rw (h x, volume_same f g xs h) refl

module _ {A : Type 0} (count : A → ℕ) where
  volume_behind : (front : List A) (last : A) → volume count (front ++ last ∷ []) ≡ volume count front * count last
  volume_behind [] last = omega arith
  volume_behind (x ∷ front) last = rw (volume_behind front last) (sym (mul_assoc (count x) (volume count front) (count last)))

  followed_volume : (list front : List A) → total (volume count) (followed_by list front) ≡ volume count front * total count list
  unfolding followed_by
  followed_volume list front =
      total_map (volume count) (λ last. front ++ last ∷ []) list
      ∙ total_same (λ last. volume count (front ++ last ∷ [])) (λ last. volume count front * count last) list (volume_behind front)
      ∙ total_times (volume count front) count list

  chosen_volume : (fronts : List (List A)) (list : List A) → total (volume count) (chosen fronts list) ≡ total count list * total (volume count) fronts
  chosen_volume fronts list =
      total_flat_map (volume count) (followed_by list) fronts
      ∙ total_same (λ front. total (volume count) (followed_by list front)) (λ front. total count list * volume count front) fronts
      (λ front. followed_volume list front ∙ mul_comm (volume count front) (total count list))
      ∙ total_times (total count list) (volume count) fronts

  fold_volume : (fronts lists : List (List A)) → total (volume count) (fold chosen fronts lists) ≡ total (volume count) fronts * volume (total count) lists
  fold_volume fronts [] = omega arith
  fold_volume fronts (list ∷ lists) =
      fold_volume (chosen fronts list) lists
      ∙ ap (λ n. n * volume (total count) lists) (chosen_volume fronts list ∙ mul_comm (total count list) (total (volume count) fronts))
      ∙ mul_assoc (total (volume count) fronts) (total count list) (volume (total count) lists)

  choices_volume : (lists : List (List A)) → total (volume count) (choices lists) ≡ volume (total count) lists
  choices_volume lists = fold_volume ([] ∷ []) lists ∙ alone (volume (total count) lists)
    where
      alone : (n : ℕ) → (1 + 0) * n ≡ n
      alone n = omega arith

choices_size : {A : Type 0} (lists : List (List A)) → length (choices lists) ≡ volume length lists
choices_size {A} lists =
    sym (total_ones (choices lists))
    ∙ total_same (λ choice. 1) (volume (λ (x : A). 1)) (choices lists) (λ choice. sym (volume_ones choice))
    ∙ choices_volume (λ (x : A). 1) lists
    ∙ volume_same (total (λ (x : A). 1)) length lists total_ones

-- ---- flat rules

module _ (conf : Conf) where
  one_at_most : {A : Type 0} (make : A → Condition) (o : Option A) → total length (option_to_list (option_map make o) ∷ []) ≤ 1
  one_at_most make None = omega arith
  one_at_most make (Some x) = omega arith

  ways_size : (c : ConditionBlock) → total length (ways conf c) ≤ factor c
  unfolding ways
  ways_size (block.Prefixes entries) = omega (arith, total_map length (λ entry. conds.Prefix entry ∷ []) entries, total_ones entries)
  ways_size (block.PrefixSet name) = one_at_most conds.PrefixSet (prefix_set_id conf name)
  ways_size (block.PrefixSetOrLonger name) = one_at_most conds.PrefixSetOrLonger (prefix_set_id conf name)
  ways_size (block.PathNumbers part numbers) = omega (arith, length_mapped (conds.PathNumber part) numbers)
  ways_size (block.PathSet part name) = one_at_most (conds.PathSet part) (as_set_id conf name)
  ways_size (block.OriginSet name) = one_at_most conds.OriginSet (origin_set_id conf name)
  ways_size (block.Ovs state) = omega arith
  ways_size (block.Community pattern) = omega arith
  ways_size (block.LargeCommunity pattern) = omega arith
  ways_size (block.MaxAsLen most) = omega arith
  ways_size (block.NextHop address) = omega arith
  ways_size (block.Family family) = omega arith

  volume_factors : (cs : List ConditionBlock) → volume (total length) (map (ways conf) cs) ≤ factors cs
  unfolding factors
  volume_factors [] = omega arith
  volume_factors (c ∷ cs) = mul-le-mul (ways_size c) (volume_factors cs)

  conditions_size : (cs : List ConditionBlock) → length (flat_conditions conf cs) ≤ factors cs
  unfolding flat_conditions
  conditions_size cs =
      let lists : List (List (List Condition)) = choices (map (ways conf) cs) in
      let all : length (flat_map choices lists) ≡ volume (total length) (map (ways conf) cs) =
      length_flat_map choices lists ∙ total_same (λ choice. length (choices choice)) (volume length) lists choices_size ∙ choices_volume length (map (ways conf) cs) in
      omega (arith, all, volume_factors cs)

  rules_for : (rule : RuleBlock) (peer : Peer) → List Rule
  rules_for rule peer = map (rule_with conf rule peer) (flat_conditions conf rule.conditions)

  rule_size : (rule : RuleBlock) → length (flat_rules conf rule) ≤ flat_rules_of rule
  unfolding flat_rules rules_for
  rule_size rule =
      let count : ℕ = length (flat_conditions conf rule.conditions) in
      let all : length (flat_map (rules_for rule) rule.peers) ≡ count * length rule.peers =
      length_flat_map (rules_for rule) rule.peers
      ∙ total_same (λ peer. length (rules_for rule peer)) (λ peer. count) rule.peers (λ peer. length_mapped (rule_with conf rule peer) (flat_conditions conf rule.conditions))
      ∙ total_constant count rule.peers in
      omega (arith, all, mul_comm count (length rule.peers), mul-le-mul_left (length rule.peers) (conditions_size rule.conditions))

  pub rules_size : (lines : List StatementLine) → length (rules_of conf lines) ≤ total flat_rules_of (said rule_of lines)
  unfolding rules_of
  rules_size lines = omega (arith, length_flat_map (flat_rules conf) (said rule_of lines), total_le (λ rule. length (flat_rules conf rule)) flat_rules_of (said rule_of lines) rule_size)
