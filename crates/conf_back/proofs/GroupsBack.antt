-- The groups of a canonical text: no name comes twice, and each group that some neighbour has is there.
use Rattle.std.proofs.Common.{◌≡◌, ◌∙◌, ℕ, ◌+◌, Bool, true, false, cond, ◌||◌, List, [], ◌∷◌, ◌++◌, map, filter, Option, Some, None, refl, sym, ap, subst}
use Rattle.std.specs.Prelude.{bytes_eq, option_map}
use Rattle.std.specs.List.{cons_option, list_any, IsDistinct}
use Rattle.std.proofs.lemmas.Cmp.{nat_list_eq_equiv}
use Rattle.conf_tree.specs.declared.conf.Conf.{Conf}
use Rattle.conf_tree.specs.declared.draft.Statement.{Statement}
use Rattle.conf_tree.specs.declared.draft.Statement.TheVariants as says
use Rattle.conf_tree.specs.declared.draft.StatementLine.{StatementLine}
use Rattle.conf_tree.specs.declared.neighbour.Neighbour.{Neighbour}
use Rattle.conf_tree.specs.Canonical.{is_alone, is_of_group, group_names}
use Rattle.conf_tree.specs.Checks.{named, group_name_of, double_of, named_if_full, full_group, groups_of}
use Rattle.conf_tree.specs.Readable.{Each}
use Rattle.conf_tree.specs.CanonicalDraft.{blocks_of, StatementUnit, statements_from, neighbour_unit, group_unit, rule_unit}
use Rattle.conf_back.proofs.Framed.{lines_back}
use Rattle.conf_back.proofs.GroupNames.{groups_differ, groups_full, group_there}
use Rattle.conf_back.proofs.Differing.{no_double}
use Rattle.conf_back.proofs.PeerLines.{is_no_peer, Passes, HoldsOf, in_front, only_rules, all_hold}

module _ (conf : Conf) where
  -- ---- the names of all groups

  -- these names, in turn
  abbrev Names : List (List ℕ) → List StatementLine → Type 0
  Names names ls = map (λ e. e.1) (named group_name_of ls) ≡ names

  unnamed : (s : Statement) → is_no_peer s ≡ true → group_name_of s ≡ None
  unnamed (says.Neighbour own) quiet = refl
  unnamed (says.Group group) quiet = absurd (cc)
  unnamed _ quiet = refl

  others_pass : (names : List (List ℕ)) (s : Statement) → is_no_peer s ≡ true → Passes (Names names) s
  others_pass names s quiet line ls h = ap (λ (o : Option (List ℕ)). map (λ e. e.1) (cons_option (option_map (λ name. (line, name)) o) (named group_name_of ls))) (unnamed s quiet) ∙ h

  groups_name : (names : List (List ℕ)) (us : List StatementUnit) → HoldsOf (Names []) us → HoldsOf (Names names) (map (group_unit conf) names ++ us)
  groups_name [] us h = h
  groups_name (name ∷ names) us h = record { from = λ line. ap (λ (found : List (List ℕ)). name ∷ found) ((groups_name names us h).from (line + (group_unit conf name).0)) }

  pub names_back : map (λ e. e.1) (named group_name_of (lines_back conf)) ≡ group_names conf.neighbours
  names_back =
      all_hold (Names (group_names conf.neighbours)) (others_pass (group_names conf.neighbours)) conf
      (in_front (Names (group_names conf.neighbours)) (neighbour_unit conf) (λ n _ _ _ h. h) (filter is_alone conf.neighbours) (map (group_unit conf) (group_names conf.neighbours) ++ map (rule_unit conf) conf.rules)
      (groups_name (group_names conf.neighbours) (map (rule_unit conf) conf.rules) (only_rules (Names []) (others_pass []) conf refl conf.rules)))

  pub no_double_group : double_of group_name_of (lines_back conf) ≡ None
  no_double_group = no_double bytes_eq nat_list_eq_equiv.symm (named group_name_of (lines_back conf)) (subst (IsDistinct bytes_eq) (sym names_back) (groups_differ conf.neighbours))

  -- ---- the names of groups with neighbours

  abbrev Groups : List (List ℕ) → List StatementLine → Type 0
  Groups names ls = groups_of ls ≡ names

  none_full : (s : Statement) → is_no_peer s ≡ true → full_group s ≡ None
  none_full (says.Neighbour own) quiet = refl
  none_full (says.Group group) quiet = absurd (cc)
  none_full _ quiet = refl

  others_lack : (names : List (List ℕ)) (s : Statement) → is_no_peer s ≡ true → Passes (Groups names) s
  others_lack names s quiet line ls h = ap (λ (o : Option (List ℕ)). cons_option o (groups_of ls)) (none_full s quiet) ∙ h

  full : (name : List ℕ) (line : ℕ) (ns : List Neighbour) → list_any (is_of_group name) ns ≡ true → named_if_full name (blocks_of conf line (filter (is_of_group name) ns)) ≡ Some name
  full name line [] some = absurd (cc)
  full name line (n ∷ ns) some = by (is_of_group name n) some (full name line ns)
    where
      by : (b : Bool) → (b || list_any (is_of_group name) ns) ≡ true → (list_any (is_of_group name) ns ≡ true → named_if_full name (blocks_of conf line (filter (is_of_group name) ns)) ≡ Some name)
          → named_if_full name (blocks_of conf line (cond b (n ∷ filter (is_of_group name) ns) (filter (is_of_group name) ns))) ≡ Some name
      by true some behind = refl
      by false some behind = behind some

  groups_found : (names : List (List ℕ)) (us : List StatementUnit) → Each (λ name. list_any (is_of_group name) conf.neighbours ≡ true) names → HoldsOf (Groups []) us → HoldsOf (Groups names) (map (group_unit conf) names ++ us)
  groups_found [] us all h = h
  groups_found (name ∷ names) us all h = record {
    from = λ line.
        ap (λ (o : Option (List ℕ)). cons_option o (groups_of (statements_from (line + (group_unit conf name).0) (map (group_unit conf) names ++ us)))) (full name (line + 1) conf.neighbours all.0)
        ∙ ap (λ (found : List (List ℕ)). name ∷ found) ((groups_found names us all.1 h).from (line + (group_unit conf name).0));
  }

  pub groups_back : groups_of (lines_back conf) ≡ group_names conf.neighbours
  groups_back =
      all_hold (Groups (group_names conf.neighbours)) (others_lack (group_names conf.neighbours)) conf
      (in_front (Groups (group_names conf.neighbours)) (neighbour_unit conf) (λ n _ _ _ h. h) (filter is_alone conf.neighbours) (map (group_unit conf) (group_names conf.neighbours) ++ map (rule_unit conf) conf.rules)
      (groups_found (group_names conf.neighbours) (map (rule_unit conf) conf.rules) (groups_full conf.neighbours) (only_rules (Groups []) (others_lack []) conf refl conf.rules)))

  pub group_known : (name : List ℕ) → list_any (is_of_group name) conf.neighbours ≡ true → list_any (bytes_eq name) (groups_of (lines_back conf)) ≡ true
  group_known name some = ap (list_any (bytes_eq name)) groups_back ∙ group_there name conf.neighbours some
