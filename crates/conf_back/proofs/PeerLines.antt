-- What holds of the statements about neighbours and groups of a canonical text holds of all of it, where other statements change nothing.
use Rattle.std.proofs.Common.{◌≡◌, ℕ, ◌+◌, Bool, true, false, List, [], ◌∷◌, ◌++◌, map, filter, refl}
use Rattle.net_base.specs.declared.roa.Roa.{Roa}
use Rattle.conf_tree.specs.declared.conf.Conf.{Conf}
use Rattle.conf_tree.specs.declared.draft.Statement.{Statement}
use Rattle.conf_tree.specs.declared.draft.Statement.TheVariants as says
use Rattle.conf_tree.specs.declared.draft.StatementLine.{StatementLine}
use Rattle.conf_tree.specs.declared.rule.Rule.{Rule}
use Rattle.conf_tree.specs.Canonical.{is_alone, group_names}
use Rattle.conf_tree.specs.CanonicalDraft.{StatementUnit, statements_from, qualify_units, listen_unit, rib_unit, prefix_set_unit, as_set_unit, origin_set_unit, roa_units, network_unit, neighbour_unit, group_unit, rule_unit, units_of}
use Rattle.conf_back.proofs.Framed.{lines_back}

-- a statement that is about no neighbour and no group
abbrev pub is_no_peer : Statement → Bool
is_no_peer (says.Neighbour own) = false
is_no_peer (says.Group group) = false
is_no_peer _ = true

module _ (Holds : List StatementLine → Type 0) where
  -- it holds with this statement in front too
  abbrev pub Passes : Statement → Type 0
  Passes s = (line : ℕ) (ls : List StatementLine) → Holds ls → Holds (record { line = line; statement = s } ∷ ls)

  -- wherever these stand, it holds of them
  pub record HoldsOf (us : List StatementUnit) : Type 0 where
    pub from : (line : ℕ) → Holds (statements_from line us)

  one_in_front : (u : StatementUnit) (us : List StatementUnit) → ((line : ℕ) → Passes (u.1 line)) → HoldsOf us → HoldsOf (u ∷ us)
  one_in_front u us passes h = record { from = λ line. passes line line (statements_from (line + u.0) us) (h.from (line + u.0)) }

  pub in_front : {A : Type 0} (unit : A → StatementUnit) → ((x : A) (line : ℕ) → Passes ((unit x).1 line)) → (xs : List A) (us : List StatementUnit) → HoldsOf us → HoldsOf (map unit xs ++ us)
  in_front unit passes [] us h = h
  in_front unit passes (x ∷ xs) us h = one_in_front (unit x) (map unit xs ++ us) (passes x) (in_front unit passes xs us h)

  module _ (pass : (s : Statement) → is_no_peer s ≡ true → Passes s) where
    qualify_in_front : (b : Bool) (us : List StatementUnit) → HoldsOf us → HoldsOf (qualify_units b ++ us)
    qualify_in_front true us h = one_in_front _ us (λ _. pass says.QualifyDefault refl) h
    qualify_in_front false us h = h

    roas_in_front : (roas : List Roa) (us : List StatementUnit) → HoldsOf us → HoldsOf (roa_units roas ++ us)
    roas_in_front [] us h = h
    roas_in_front (r ∷ roas) us h = one_in_front _ us (λ _. pass (says.RoaSet (r ∷ roas)) refl) h

    -- rules stand last
    pub only_rules : (conf : Conf) → Holds [] → (rules : List Rule) → HoldsOf (map (rule_unit conf) rules)
    only_rules conf none [] = record { from = λ line. none }
    only_rules conf none (r ∷ rules) = one_in_front (rule_unit conf r) (map (rule_unit conf) rules) (λ line. pass ((rule_unit conf r).1 line) refl) (only_rules conf none rules)

    abbrev PeersHold : Conf → Type 0
    PeersHold conf = HoldsOf (map (neighbour_unit conf) (filter is_alone conf.neighbours) ++ (map (group_unit conf) (group_names conf.neighbours) ++ map (rule_unit conf) conf.rules))

    printed_hold : (conf : Conf) → PeersHold conf → HoldsOf (units_of conf)
    printed_hold conf h =
        one_in_front _ _ (λ _. pass (says.As conf.asn) refl)
        (one_in_front _ _ (λ _. pass (says.RouterId conf.router_id) refl)
        (one_in_front _ _ (λ _. pass (says.Hold conf.hold) refl)
        (one_in_front _ _ (λ _. pass (says.HoldMin conf.hold_min) refl)
        (one_in_front _ _ (λ _. pass (says.FibUpdate conf.fib_update) refl)
        (qualify_in_front conf.qualify_default _
        (one_in_front _ _ (λ _. pass (says.MedCompare conf.med_always) refl)
        (one_in_front _ _ (λ _. pass (says.Socket conf.socket) refl)
        (in_front listen_unit (λ l _. pass (says.Listen l) refl) conf.listen _
        (in_front rib_unit (λ r _. pass (says.Rib r.name r.table) refl) conf.ribs _
        (in_front prefix_set_unit (λ s _. pass (says.PrefixSet s.name s.entries) refl) conf.prefix_sets _
        (in_front as_set_unit (λ s _. pass (says.AsSet s.name s.numbers) refl) conf.as_sets _
        (in_front origin_set_unit (λ s _. pass (says.OriginSet s.name s.entries) refl) conf.origin_sets _
        (roas_in_front conf.roas _
        (in_front network_unit (λ n _. pass (says.Network n.prefix n.set) refl) conf.networks _ h))))))))))))))

    pub all_hold : (conf : Conf) → PeersHold conf → Holds (lines_back conf)
    all_hold conf h = (printed_hold conf h).from 1
