-- The rules of a canonical text are those of its configuration.
use Rattle.std.proofs.Common.{◌≡◌, ◌∙◌, ℕ, List, [], ◌∷◌, ◌++◌, map, flat_map, fold, Option, Some, None, refl, ap, sym, append_assoc, append-nil}
use Rattle.std.specs.Prelude.{option_and_then, option_map, option_to_list}
use Rattle.conf_tree.specs.declared.conf.Conf.{Conf}
use Rattle.conf_tree.specs.declared.rule.Condition.{Condition}
use Rattle.conf_tree.specs.declared.rule.Condition.TheVariants as conditions
use Rattle.conf_tree.specs.declared.rule.Direction.{Direction}
use Rattle.conf_tree.specs.declared.rule.Direction.TheVariants.{From, To}
use Rattle.conf_tree.specs.declared.rule.Rule.{Rule}
use Rattle.conf_tree.specs.declared.sets.SetId.{SetId}
use Rattle.conf_tree.specs.Canonical.{rib_name}
use Rattle.conf_tree.specs.Flat.{rib_number, ways, followed_by, chosen, choices, flat_conditions, rule_with, flat_rules, rules_of}
use Rattle.conf_tree.specs.Readable.{Each, IsRuleRib, IsRule, IsWithinLimits}
use Rattle.conf_tree.specs.Settled.{IsSettled, IsKnownCondition, IsKnownRule}
use Rattle.conf_tree.specs.CanonicalDraft.{condition_block, rule_block}
use Rattle.conf_back.proofs.Framed.{framed, lines_back}
use Rattle.conf_back.proofs.Selected.{rules_said}
use Rattle.conf_back.proofs.NamesBack.{prefix_set_back, as_set_back, origin_set_back}
use Rattle.conf_back.proofs.RibsBack.{rib_number_back}

-- ---- one choice of one member from each list

chosen_one : {A : Type 0} (front : List A) (xs : List A) → fold chosen (front ∷ []) (map (λ x. x ∷ []) xs) ≡ (front ++ xs) ∷ []
unfolding followed_by
chosen_one front [] = ap (λ (choice : _). choice ∷ []) (sym (append-nil front))
chosen_one {A} front (x ∷ xs) = chosen_one (front ++ x ∷ []) xs ∙ ap (λ (choice : List A). choice ∷ []) (append_assoc front (x ∷ []) xs)

one_choice : {A : Type 0} (xs : List A) → choices (map (λ x. x ∷ []) xs) ≡ xs ∷ []
one_choice xs = chosen_one [] xs

module _ (conf : Conf) (s : IsSettled conf) where
  -- a condition as it is written stands for itself alone
  abbrev alone : Condition → List (List Condition)
  alone c = (c ∷ []) ∷ []

  named : (make : SetId → Condition) (o : Option SetId) (set : SetId) → o ≡ Some set → option_to_list (option_map make o) ∷ [] ≡ (make set ∷ []) ∷ []
  named make o set e = ap (λ (found : Option SetId). option_to_list (option_map make found) ∷ []) e

  ways_back : (c : Condition) → IsKnownCondition conf c → ways (framed conf) (condition_block conf c) ≡ (c ∷ []) ∷ []
  unfolding ways
  ways_back (conditions.Prefix range) h = refl
  ways_back (conditions.PrefixSet set) h = named conditions.PrefixSet _ set (prefix_set_back conf s set h)
  ways_back (conditions.PrefixSetOrLonger set) h = named conditions.PrefixSetOrLonger _ set (prefix_set_back conf s set h)
  ways_back (conditions.PathNumber part asn) h = refl
  ways_back (conditions.PathSet part set) h = named (conditions.PathSet part) _ set (as_set_back conf s set h)
  ways_back (conditions.OriginSet set) h = named conditions.OriginSet _ set (origin_set_back conf s set h)
  ways_back (conditions.Ovs state) h = refl
  ways_back (conditions.Community pattern) h = refl
  ways_back (conditions.LargeCommunity pattern) h = refl
  ways_back (conditions.MaxAsLen most) h = refl
  ways_back (conditions.NextHop address) h = refl
  ways_back (conditions.Family family) h = refl

  all_ways_back : (cs : List Condition) → Each (IsKnownCondition conf) cs → map (ways (framed conf)) (map (condition_block conf) cs) ≡ map (λ lists. lists ∷ []) (map (λ c. c ∷ []) cs)
  all_ways_back [] h = refl
  all_ways_back (c ∷ cs) h = λ i. ways_back c h.0 i ∷ all_ways_back cs h.1 i

  conditions_back : (cs : List Condition) → Each (IsKnownCondition conf) cs → flat_conditions (framed conf) (map (condition_block conf) cs) ≡ cs ∷ []
  unfolding flat_conditions
  conditions_back cs h =
      ap (λ (lists : List (List (List Condition))). flat_map choices (choices lists)) (all_ways_back cs h)
      ∙ ap (flat_map choices) (one_choice (map (λ c. c ∷ []) cs))
      ∙ append-nil (choices (map (λ c. c ∷ []) cs))
      ∙ one_choice cs

  module _ (fits : IsWithinLimits conf) where
    rib_back : (direction : Direction) (rib : Option ℕ) → IsRuleRib conf direction rib → option_and_then (rib_number conf.ribs) (option_map (rib_name conf) rib) ≡ rib
    rib_back direction None h = refl
    rib_back From (Some number) h = rib_number_back conf number fits s h
    rib_back To (Some number) h = absurd h

    rule_with_back : (r : Rule) → IsRule conf r → rule_with (framed conf) (rule_block conf r) r.peer r.conditions ≡ r
    unfolding rule_with
    rule_with_back r h = ap (λ (rib : Option ℕ). record r { rib = rib }) (rib_back r.direction r.rib h.rib)

    flat_rules_back : (r : Rule) → IsRule conf r → IsKnownRule conf r → flat_rules (framed conf) (rule_block conf r) ≡ r ∷ []
    unfolding flat_rules
    flat_rules_back r h k =
        append-nil (map (rule_with (framed conf) (rule_block conf r) r.peer) (flat_conditions (framed conf) (map (condition_block conf) r.conditions)))
        ∙ ap (map (rule_with (framed conf) (rule_block conf r) r.peer)) (conditions_back r.conditions k.1)
        ∙ ap (λ (rule : Rule). rule ∷ []) (rule_with_back r h)

    all_rules_back : (rs : List Rule) → Each (IsRule conf) rs → Each (IsKnownRule conf) rs → flat_map (flat_rules (framed conf)) (map (rule_block conf) rs) ≡ rs
    all_rules_back [] h k = refl
    all_rules_back (r ∷ rs) h k = λ i. flat_rules_back r h.0 k.0 i ++ all_rules_back rs h.1 k.1 i

    pub rules_back : Each (IsRule conf) conf.rules → rules_of (framed conf) (lines_back conf) ≡ conf.rules
    unfolding rules_of
    rules_back h = ap (flat_map (flat_rules (framed conf))) (rules_said conf) ∙ all_rules_back conf.rules h s.rules
