-- The rules of a canonical text name nothing that there isn't.
use Rattle.std.proofs.Common.{◌≡◌, ℕ, true, false, cond, not, List, [], ◌∷◌, map, Option, Some, None, refl, ap, sym, subst, bytes_eq}
use Rattle.std.specs.Prelude.{is_none, option_map, find}
use Rattle.std.specs.List.{list_any, cons_option}
use Rattle.conf_tree.specs.declared.conf.Conf.{Conf}
use Rattle.conf_tree.specs.declared.draft.RuleBlock.{RuleBlock}
use Rattle.conf_tree.specs.declared.draft.Statement.{Statement}
use Rattle.conf_tree.specs.declared.draft.Statement.TheVariants as says
use Rattle.conf_tree.specs.declared.draft.StatementLine.{StatementLine}
use Rattle.conf_tree.specs.declared.rule.Condition.{Condition}
use Rattle.conf_tree.specs.declared.rule.Condition.TheVariants as conditions
use Rattle.conf_tree.specs.declared.rule.Direction.{Direction}
use Rattle.conf_tree.specs.declared.rule.Direction.TheVariants.{From, To}
use Rattle.conf_tree.specs.declared.rule.Peer.{Peer}
use Rattle.conf_tree.specs.declared.rule.Peer.TheVariants as peers
use Rattle.conf_tree.specs.declared.rule.Rule.{Rule}
use Rattle.conf_tree.specs.Said.{said, rule_of}
use Rattle.conf_tree.specs.Canonical.{is_of_group, rib_name}
use Rattle.conf_tree.specs.Checks.{is_unknown_rib, groups_of, is_unknown_peer, is_unknown_set, has_unknown, is_unknown_rule, unknown_rule}
use Rattle.conf_tree.specs.Readable.{Each, IsRuleRib, IsRule, IsWithinLimits}
use Rattle.conf_tree.specs.Settled.{IsSettled, IsKnownPeer, IsKnownCondition, IsKnownRule}
use Rattle.conf_tree.specs.CanonicalDraft.{condition_block, rule_block}
use Rattle.conf_back.proofs.Framed.{framed, lines_back}
use Rattle.conf_back.proofs.Selected.{rules_said}
use Rattle.conf_back.proofs.NamesBack.{prefix_set_back, as_set_back, origin_set_back}
use Rattle.conf_back.proofs.RibsBack.{rib_number_back}

-- rules that are known are not found among all statements
module _ (conf : Conf) (groups : List (List ℕ)) where
  abbrev IsFine : RuleBlock → Type 0
  IsFine rule = has_unknown conf groups rule ≡ false

  none_unknown : (lines : List StatementLine) → Each IsFine (said rule_of lines) → find (λ l. is_unknown_rule conf groups l.statement) lines ≡ None
  none_unknown [] h = refl
  none_unknown (l ∷ lines) h = by l.statement h (none_unknown lines)
    where
      by : (s : Statement) → Each IsFine (cons_option (rule_of s) (said rule_of lines)) → (Each IsFine (said rule_of lines) → find (λ l. is_unknown_rule conf groups l.statement) lines ≡ None)
          → cond (is_unknown_rule conf groups s) (Some l) (find (λ l. is_unknown_rule conf groups l.statement) lines) ≡ None
      by (says.Rule rule) h behind = rw h.0 (behind h.1)
      by _ h behind = behind h

module _ (conf : Conf) (fits : IsWithinLimits conf) (s : IsSettled conf) (groups : List (List ℕ)) (group_known : (name : List ℕ) → list_any (is_of_group name) conf.neighbours ≡ true → list_any (bytes_eq name) groups ≡ true) where
  rib_known : (direction : Direction) (rib : Option ℕ) → IsRuleRib conf direction rib → is_unknown_rib (framed conf) (option_map (rib_name conf) rib) ≡ false
  rib_known direction None h = refl
  rib_known From (Some number) h = ap is_none (rib_number_back conf number fits s h)
  rib_known To (Some number) h = absurd h

  peer_known : (peer : Peer) → IsKnownPeer conf peer → is_unknown_peer groups peer ≡ false
  peer_known (peers.Group name) h = ap not (group_known name h)
  peer_known _ h = refl

  set_known : (c : Condition) → IsKnownCondition conf c → is_unknown_set (framed conf) (condition_block conf c) ≡ false
  set_known (conditions.Prefix range) h = refl
  set_known (conditions.PrefixSet set) h = ap is_none (prefix_set_back conf s set h)
  set_known (conditions.PrefixSetOrLonger set) h = ap is_none (prefix_set_back conf s set h)
  set_known (conditions.PathNumber part asn) h = refl
  set_known (conditions.PathSet part set) h = ap is_none (as_set_back conf s set h)
  set_known (conditions.OriginSet set) h = ap is_none (origin_set_back conf s set h)
  set_known (conditions.Ovs state) h = refl
  set_known (conditions.Community pattern) h = refl
  set_known (conditions.LargeCommunity pattern) h = refl
  set_known (conditions.MaxAsLen most) h = refl
  set_known (conditions.NextHop address) h = refl
  set_known (conditions.Family family) h = refl

  sets_known : (cs : List Condition) → Each (IsKnownCondition conf) cs → list_any (is_unknown_set (framed conf)) (map (condition_block conf) cs) ≡ false
  sets_known [] h = refl
  sets_known (c ∷ cs) h = rw (set_known c h.0) (sets_known cs h.1)

  rule_known : (r : Rule) → IsRule conf r → IsKnownRule conf r → has_unknown (framed conf) groups (rule_block conf r) ≡ false
  unfolding has_unknown
  rule_known r h k = rw (rib_known r.direction r.rib h.rib, peer_known r.peer k.0, sets_known r.conditions k.1) refl

  rules_known : (rs : List Rule) → Each (IsRule conf) rs → Each (IsKnownRule conf) rs → Each (IsFine (framed conf) groups) (map (rule_block conf) rs)
  rules_known [] h k = tt
  rules_known (r ∷ rs) h k = (rule_known r h.0 k.0, rules_known rs h.1 k.1)

  pub no_unknown_rule : Each (IsRule conf) conf.rules → groups ≡ groups_of (lines_back conf) → unknown_rule (framed conf) (lines_back conf) ≡ None
  unfolding unknown_rule
  no_unknown_rule h same =
      ap (option_map (λ l. l.line))
      (subst (λ (found : List (List ℕ)). find (λ l. is_unknown_rule (framed conf) found l.statement) (lines_back conf) ≡ None) same
      (none_unknown (framed conf) groups (lines_back conf) (subst (Each (IsFine (framed conf) groups)) (sym (rules_said conf)) (rules_known conf.rules h s.rules))))
