-- The neighbours that stand in the statements of a canonical text are those of the configuration, each with its options.
use Rattle.std.proofs.Common.{◌≡◌, ◌∙◌, ℕ, ◌+◌, true, false, not, List, [], ◌∷◌, ◌++◌, map, filter, flat_map, Option, Some, None, refl, sym, ap, subst, append_assoc, append-nil}
use Rattle.std.specs.Prelude.{bytes_eq, is_some}
use Rattle.std.specs.Option.{option_map_or}
use Rattle.std.specs.List.{AllByRecursion}
use Rattle.std.proofs.lemmas.Slice.Eq.{bytes_eq-Decides}
use Rattle.conf_tree.specs.declared.conf.Conf.{Conf}
use Rattle.conf_tree.specs.declared.draft.NeighbourBlock.{NeighbourBlock}
use Rattle.conf_tree.specs.declared.draft.Statement.{Statement}
use Rattle.conf_tree.specs.declared.draft.Statement.TheVariants as says
use Rattle.conf_tree.specs.declared.draft.StatementLine.{StatementLine}
use Rattle.conf_tree.specs.declared.neighbour.Neighbour.{Neighbour}
use Rattle.conf_tree.specs.Canonical.{is_alone, is_of_group, group_names}
use Rattle.conf_tree.specs.Flat.{Placed, placed_in, placed}
use Rattle.conf_tree.specs.Readable.{members_of}
use Rattle.conf_tree.specs.CanonicalDraft.{block_of, block_length, blocks_of, StatementUnit, statements_from, neighbour_unit, group_unit, rule_unit}
use Rattle.conf_back.proofs.Framed.{lines_back}
use Rattle.conf_back.proofs.OptionsBack.{placed_as}
use Rattle.conf_back.proofs.Merged.{passing}
use Rattle.conf_back.proofs.PeerLines.{is_no_peer, Passes, HoldsOf, only_rules, all_hold}

-- ---- neighbours with their places

-- the neighbours in the order of the canonical text
abbrev pub written : Conf → List Neighbour
written conf = filter is_alone conf.neighbours ++ flat_map (members_of conf) (group_names conf.neighbours)

-- this neighbour of the text is that one, printed from some line on
pub record IsPlacedAs (conf : Conf) (p : Placed) (n : Neighbour) : Type 0 where
  pub line : ℕ
  pub is : p ≡ placed_as conf line n

-- and so each of one list in turn
abbrev pub ArePlacedAs : Conf → List Placed → List Neighbour → Type 0
ArePlacedAs conf [] [] = Unit {0}
ArePlacedAs conf [] (n ∷ ns) = ⊥
ArePlacedAs conf (p ∷ ps) [] = ⊥
ArePlacedAs conf (p ∷ ps) (n ∷ ns) = IsPlacedAs conf p n × ArePlacedAs conf ps ns

both_placed : (conf : Conf) (ps qs : List Placed) (ns ms : List Neighbour) → ArePlacedAs conf ps ns → ArePlacedAs conf qs ms → ArePlacedAs conf (ps ++ qs) (ns ++ ms)
both_placed conf [] qs [] ms h k = k
both_placed conf [] qs (n ∷ ns) ms h k = absurd h
both_placed conf (p ∷ ps) qs [] ms h k = absurd h
both_placed conf (p ∷ ps) qs (n ∷ ns) ms h k = (h.0, both_placed conf ps qs ns ms h.1 k)

alone_group : (n : Neighbour) (group : Option (List ℕ)) → n.group ≡ group → not (is_some group) ≡ true → n.group ≡ None
alone_group n None is alone = is
alone_group n (Some g) is alone = absurd (cc)

alone_placed : (conf : Conf) (line : ℕ) (n : Neighbour) → is_alone n ≡ true → ArePlacedAs conf (placed_in (says.Neighbour (block_of conf line n))) (n ∷ [])
alone_placed conf line n alone = (record { line = line; is = λ i. record { group = sym (alone_group n n.group refl alone) i; shared = []; block = block_of conf line n } }, tt)

member_group : (name : List ℕ) (n : Neighbour) (group : Option (List ℕ)) → n.group ≡ group → option_map_or (λ g. bytes_eq g name) group false ≡ true → n.group ≡ Some name
member_group name n None is of_group = absurd (cc)
member_group name n (Some g) is of_group = is ∙ ap Some ((bytes_eq-Decides g name).0 of_group)

abbrev placed_member : List ℕ → NeighbourBlock → Placed
placed_member name own = record { group = Some name; shared = []; block = own }

members_placed : (conf : Conf) (name : List ℕ) (line : ℕ) (ns : List Neighbour) → AllByRecursion (λ n. is_of_group name n ≡ true) ns → ArePlacedAs conf (map (placed_member name) (blocks_of conf line ns)) ns
members_placed conf name line [] all = tt
members_placed conf name line (n ∷ ns) all = (
  record { line = line; is = λ i. record { group = sym (member_group name n n.group refl all.0) i; shared = []; block = block_of conf line n } },
  members_placed conf name (line + block_length conf n) ns all.1,
)

-- ---- the statements

module _ (conf : Conf) where
  -- these neighbours, in turn
  abbrev Gives : List Neighbour → List StatementLine → Type 0
  Gives ns ls = ArePlacedAs conf (placed ls) ns

  no_place : (s : Statement) → is_no_peer s ≡ true → placed_in s ≡ []
  no_place (says.Neighbour own) quiet = absurd (cc)
  no_place (says.Group group) quiet = absurd (cc)
  no_place _ quiet = refl

  others_pass : (ns : List Neighbour) (s : Statement) → is_no_peer s ≡ true → Passes (Gives ns) s
  unfolding placed
  others_pass ns s quiet line ls h = subst (λ (ps : List Placed). ArePlacedAs conf (ps ++ placed ls) ns) (sym (no_place s quiet)) h

  alone_give : (ns ms : List Neighbour) (us : List StatementUnit) → AllByRecursion (λ n. is_alone n ≡ true) ns → HoldsOf (Gives ms) us → HoldsOf (Gives (ns ++ ms)) (map (neighbour_unit conf) ns ++ us)
  unfolding placed
  alone_give [] ms us all h = h
  alone_give (n ∷ ns) ms us all h = record {
    from = λ line.
        both_placed conf (placed_in (says.Neighbour (block_of conf line n))) _ (n ∷ []) (ns ++ ms) (alone_placed conf line n all.0)
        ((alone_give ns ms us all.1 h).from (line + (neighbour_unit conf n).0));
  }

  groups_give : (names : List (List ℕ)) (ms : List Neighbour) (us : List StatementUnit) → HoldsOf (Gives ms) us → HoldsOf (Gives (flat_map (members_of conf) names ++ ms)) (map (group_unit conf) names ++ us)
  unfolding placed
  groups_give [] ms us h = h
  groups_give (name ∷ names) ms us h = record {
    from = λ line.
        subst (λ (ns : List Neighbour). Gives ns (statements_from line (map (group_unit conf) (name ∷ names) ++ us))) (sym (append_assoc (members_of conf name) (flat_map (members_of conf) names) ms))
        (both_placed conf (map (placed_member name) (blocks_of conf (line + 1) (members_of conf name))) _ (members_of conf name) (flat_map (members_of conf) names ++ ms)
        (members_placed conf name (line + 1) (members_of conf name) (passing (is_of_group name) conf.neighbours))
        ((groups_give names ms us h).from (line + (group_unit conf name).0)));
  }

  none_placed : Gives [] []
  unfolding placed
  none_placed = tt

  pub placed_back : ArePlacedAs conf (placed (lines_back conf)) (written conf)
  placed_back =
      all_hold (Gives (written conf)) (others_pass (written conf)) conf
      (subst (λ (ms : List Neighbour). HoldsOf (Gives (filter is_alone conf.neighbours ++ ms)) (map (neighbour_unit conf) (filter is_alone conf.neighbours) ++ (map (group_unit conf) (group_names conf.neighbours) ++ map (rule_unit conf) conf.rules)))
      (append-nil (flat_map (members_of conf) (group_names conf.neighbours)))
      (alone_give (filter is_alone conf.neighbours) (flat_map (members_of conf) (group_names conf.neighbours) ++ []) (map (group_unit conf) (group_names conf.neighbours) ++ map (rule_unit conf) conf.rules)
      (passing is_alone conf.neighbours)
      (groups_give (group_names conf.neighbours) [] (map (rule_unit conf) conf.rules) (only_rules (Gives []) (others_pass []) conf none_placed conf.rules))))
