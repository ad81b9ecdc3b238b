-- Without sessions the rows of a RIB are those of the networks.
use Rattle.std.proofs.Common.{◌≡◌, ℕ, Bool, true, false, List, [], ◌∷◌, ◌++◌, fold, map, Option, Some, None, option_map, option_to_list, refl, sym, ap, ◌∙◌, append_assoc}
use Rattle.std.proofs.lemmas.List.{append-nil, map-append}
use Rattle.std.specs.Prelude.{find, Contains}
use Rattle.std.specs.declared.cmp.Ordering.{Ordering}
use Rattle.std.specs.declared.cmp.Ordering.TheVariants.{Less, Greater, Equal}
use Rattle.std.specs.Ordering.{is_eq, on, ordering_reverse}
use Rattle.std.specs.List.{AllByRecursion, flat_map}
use Rattle.std.specs.List.Sorted.{IsStrictlySortedBy}
use Rattle.std.specs.BTreeSet.{insert_key}
use Rattle.std.proofs.lemmas.Bool.{true≢false}
use Rattle.std.proofs.lemmas.Cmp.{tied_itself}
use Rattle.std.proofs.lemmas.List.Folds.{flat_map-map}
use Rattle.net_base.specs.declared.prefix.Prefix.{Prefix}
use Rattle.net_base.specs.Order.{prefix_cmp}
use Rattle.net_base.proofs.Order.{prefix_cmp-total}
use Rattle.attr_model.specs.declared.row.RouteRow.{RouteRow}
use Rattle.conf_tree.specs.declared.conf.Conf.{Conf}
use Rattle.conf_tree.specs.declared.conf.Network.{Network}
use Rattle.decision.specs.declared.candidate.Candidate.{Candidate}
use Rattle.decision.specs.Best.{best_of}
use Rattle.decision.proofs.SameMembers.{best_there}
use Rattle.decision.proofs.Eligible.{some_eligible}
use Rattle.route_world.specs.declared.world.World.{World}
use Rattle.route_world.specs.declared.world.Hops.{Hops}
use Rattle.route_world.specs.World.{known_prefixes}
use Rattle.route_world.specs.Import.{candidates, network_at, network_candidate}
use Rattle.route_world.specs.Networks.{network_row, network_rows}
use Rattle.route_world.specs.Loc.{loc, loc_at, row_of, rows_of}
use Rattle.route_world.proofs.GoodCandidates.{joined}
use Rattle.route_world.proofs.GoodExport.{member}

-- ---- order

turned : (p q : Prefix) → prefix_cmp p q ≡ Less → prefix_cmp q p ≡ Greater
turned p q e = prefix_cmp-total.antisymm q p ∙ ap ordering_reverse e

abbrev AllBelow : List Prefix → Prefix → Type 0
AllBelow before p = AllByRecursion (λ (q : Prefix). prefix_cmp q p ≡ Less) before

abbrev prefix_of_network : Network → Prefix
prefix_of_network network = network.prefix

insert_last : (before : List Prefix) (p : Prefix) → AllBelow before p → insert_key prefix_cmp before p ≡ before ++ p ∷ []
insert_last [] p below = refl
insert_last (q ∷ before) p below = rw (turned q p below.0) (ap (λ (ps : List Prefix). q ∷ ps) (insert_last before p below.1))

-- each of the rest is above all before it
abbrev Above : List Prefix → List Network → Type 0
Above before rest = AllByRecursion (λ (network : Network). AllBelow before network.prefix) rest

above_more : (before : List Prefix) (first : Prefix) (rest : List Network) → Above before rest → AllByRecursion (λ (network : Network). prefix_cmp first network.prefix ≡ Less) rest → Above (before ++ first ∷ []) rest
above_more before first [] above next = tt
above_more before first (network ∷ rest) above next =
    (joined (λ (q : Prefix). prefix_cmp q network.prefix ≡ Less) before (first ∷ []) above.0 (next.0, tt), above_more before first rest above.1 next.1)

abbrev Ascend : List Network → Type 0
Ascend networks = IsStrictlySortedBy (on (λ (network : Network). network.prefix) prefix_cmp) networks

first_below : (network : Network) (rest : List Network) → Ascend (network ∷ rest) → AllByRecursion (λ (other : Network). prefix_cmp network.prefix other.prefix ≡ Less) rest
unfolding IsStrictlySortedBy
first_below network rest ascend = ascend.0

rest_ascends : (network : Network) (rest : List Network) → Ascend (network ∷ rest) → Ascend rest
unfolding IsStrictlySortedBy
rest_ascends network rest ascend = ascend.1

inserted : (before : List Prefix) (rest : List Network) → Above before rest → Ascend rest → fold (insert_key prefix_cmp) before (map prefix_of_network rest) ≡ before ++ map prefix_of_network rest
inserted before [] above ascend = sym (append-nil before)
inserted before (network ∷ rest) above ascend =
    ap (λ (ps : List Prefix). fold (insert_key prefix_cmp) ps (map prefix_of_network rest)) (insert_last before network.prefix above.0)
    ∙ (inserted (before ++ network.prefix ∷ []) rest (above_more before network.prefix rest above.1 (first_below network rest ascend)) (rest_ascends network rest ascend)
    ∙ append_assoc before (network.prefix ∷ []) (map prefix_of_network rest))

none_before : (rest : List Network) → Above [] rest
none_before [] = tt
none_before (network ∷ rest) = (tt, none_before rest)

-- ---- the network of a prefix

found_behind : (before rest : List Network) (network : Network) → AllBelow (map prefix_of_network before) network.prefix → find (λ (n : Network). is_eq (prefix_cmp network.prefix n.prefix)) (before ++ network ∷ rest) ≡ Some network
found_behind [] rest network below = rw (tied_itself prefix_cmp-total network.prefix) refl
found_behind (first ∷ before) rest network below = rw (turned first.prefix network.prefix below.0) (found_behind before rest network below.1)

-- ---- rows

module _ (conf : Conf) (hops : Hops) (rib : ℕ) where
  abbrev world : World
  world = record { conf = conf; sessions = []; hops = hops }

  best_alone : (always : Bool) (network : Network) (best : Option Candidate) → best_of always (network_candidate conf network ∷ []) ≡ best → best ≡ Some (network_candidate conf network)
  best_alone always network None is = absurd (true≢false (some_eligible always (network_candidate conf network ∷ []) is))
  best_alone always network (Some best) is =
      let there = best_there always (network_candidate conf network ∷ []) best is in
      ap Some (member (λ (c : Candidate). c ≡ network_candidate conf network) (network_candidate conf network ∷ []) there.0 best (refl, tt) there.1 there.2)

  row_alone : (network : Network) → rows_of conf.med_always network.prefix (network_candidate conf network ∷ []) ≡ network_row conf network ∷ []
  row_alone network =
      ap
      (λ (best : Option Candidate). row_of (option_map (λ (c : Candidate). c.from) best) network.prefix (network_candidate conf network) ∷ [])
      (best_alone conf.med_always network _ refl)

  row_at : (network : Network) → network_at conf network.prefix ≡ Some network → loc_at world rib network.prefix ≡ network_row conf network ∷ []
  unfolding candidates
  row_at network is =
      ap (λ (found : Option Network). rows_of conf.med_always network.prefix (option_to_list (option_map (network_candidate conf) found) ++ [])) is
      ∙ row_alone network

  rows_behind : (before rest : List Network) → conf.networks ≡ before ++ rest → Above (map prefix_of_network before) rest → Ascend rest → flat_map (λ (network : Network). loc_at world rib network.prefix) rest ≡ map (network_row conf) rest
  rows_behind before [] are above ascend = refl
  rows_behind before (network ∷ rest) are above ascend =
      let found = ap (find (λ (n : Network). is_eq (prefix_cmp network.prefix n.prefix))) are ∙ found_behind before rest network above.0 in
      let next = above_more (map prefix_of_network before) network.prefix rest above.1 (first_below network rest ascend) in
      let others =
      rows_behind (before ++ network ∷ []) rest (are ∙ sym (append_assoc before (network ∷ []) rest)) (rw (map-append prefix_of_network before (network ∷ [])) next) (rest_ascends network rest ascend)
      in
      ap (λ (rows : List RouteRow). rows ++ flat_map (λ (n : Network). loc_at world rib n.prefix) rest) (row_at network found)
      ∙ ap (λ (rows : List RouteRow). network_row conf network ∷ rows) others

  pub rows_are : Ascend conf.networks → loc world rib ≡ network_rows conf
  unfolding loc
  rows_are ascend =
      ap (flat_map (loc_at world rib)) (inserted [] conf.networks (none_before conf.networks) ascend)
      ∙ (flat_map-map (loc_at world rib) prefix_of_network conf.networks
      ∙ rows_behind [] conf.networks refl (none_before conf.networks) ascend)
