-- The attributes of candidates could have been sent with the prefix, where those of the held routes could.
use Rattle.std.proofs.Common.{◌≡◌, ℕ, Bool, true, false, List, [], ◌∷◌, ◌++◌, Option, Some, None, option_map, option_and_then, option_to_list, Ordering, refl, sym, ap, ◌∙◌, subst, arith}
use Rattle.std.specs.Prelude.{find}
use Rattle.std.specs.Ordering.{is_eq}
use Rattle.std.proofs.lemmas.Bool.{cond-true, cond-false}
use Rattle.std.proofs.lemmas.Option.{none-some, same_Some}
use Rattle.net_base.specs.Order.{prefix_cmp}
use Rattle.net_base.proofs.Order.{prefix_cmp-Equal}
use Rattle.std.specs.List.{AllByRecursion, flat_map}
use Rattle.std.specs.List.Sorted.{IsStrictlySortedBy}
use Rattle.net_base.specs.declared.prefix.Prefix.{Prefix}
use Rattle.attr_model.specs.declared.attrs.Attrs.{Attrs}
use Rattle.attr_model.specs.Routes.{route_at}
use Rattle.attr_model.specs.Valid.{IsValid}
use Rattle.conf_tree.specs.declared.conf.Network.{Network}
use Rattle.conf_tree.specs.declared.neighbour.Neighbour.{Neighbour}
use Rattle.decision.specs.declared.candidate.Candidate.{Candidate}
use Rattle.filter_engine.specs.declared.verdict.Hop.{Hop}
use Rattle.filter_engine.specs.Verdict.{verdict}
use Rattle.route_world.specs.declared.world.World.{World}
use Rattle.route_world.specs.declared.world.Session.{Session}
use Rattle.route_world.specs.World.{neighbour_at}
use Rattle.route_world.specs.Import.{candidate_of, candidates, import_at, import_context, imported, network_at, network_attrs, network_candidate, network_context, with_set}
use Rattle.route_world.specs.Sent.{HoldGood, IsGood, IsGoodIf}
use Rattle.route_world.proofs.Steady.{given_good, set_good, verdict_steady}

none_sorted : {K : Type 0} (c : K → K → Ordering) → IsStrictlySortedBy c []
unfolding IsStrictlySortedBy
none_sorted c = tt

pub joined : {X : Type 0} (P : X → Type 0) (xs ys : List X) → AllByRecursion P xs → AllByRecursion P ys → AllByRecursion P (xs ++ ys)
joined P [] ys first second = second
joined P (x ∷ xs) ys first second = (first.0, joined P xs ys first.1 second)

module _ (prefix : Prefix) where
  abbrev pub IsGoodOne : Candidate → Type 0
  IsGoodOne candidate = IsGood prefix candidate.attrs.attrs

  abbrev AreGood : List Candidate → Type 0
  AreGood found = AllByRecursion IsGoodOne found

  -- ---- networks

  network_valid : IsValid (network_attrs prefix.family)
  network_valid = record {
    origin = omega arith;
    path = tt;
    communities = none_sorted _;
    large = none_sorted _;
    unknown = none_sorted _;
    unknown_types = tt;
    «partial» = record { below = omega arith; aggregator = λ some. absurd (some refl); communities = λ some. absurd (some refl); large = λ some. absurd (some refl) };
  }

  -- ---- routes of neighbours

  module _ (world : World) (rib : ℕ) (session : Session) (held : Attrs) where
    passed_good : (neighbour : Neighbour) (passed : Option (Attrs × Hop)) → IsGood prefix held →
        verdict world.conf world.conf.rules (import_context world.conf session.facts neighbour rib prefix) (with_set (import_context world.conf session.facts neighbour rib prefix) neighbour.set held) ≡ passed →
        AreGood (option_to_list (option_map (candidate_of world session held) passed))
    passed_good neighbour None good is = tt
    passed_good neighbour (Some passed) good is =
        let context = import_context world.conf session.facts neighbour rib prefix in
        let steady = verdict_steady context world.conf world.conf.rules (with_set context neighbour.set held) passed (set_good context neighbour.set held good) is in
        (given_good prefix passed.0 passed.1 steady.0 steady.1, tt)

    found_good : (found : Option Neighbour) → IsGood prefix held → AreGood (option_to_list (option_and_then (imported world rib session prefix held) found))
    found_good None good = tt
    found_good (Some neighbour) good = passed_good neighbour _ good refl

  import_good : (world : World) (rib : ℕ) (session : Session) (route : Option Attrs) → IsGoodIf prefix route →
      AreGood (option_to_list (option_and_then (λ held. option_and_then (imported world rib session prefix held) (neighbour_at world.conf session.peer)) route))
  import_good world rib session None good = tt
  import_good world rib session (Some held) good = found_good world rib session held (neighbour_at world.conf session.peer) good

  imports_good : (world : World) (rib : ℕ) (sessions : List Session) → AllByRecursion (λ (session : Session). IsGoodIf prefix (route_at session.held prefix)) sessions →
      AreGood (flat_map (λ session. option_to_list (import_at world rib session prefix)) sessions)
  unfolding import_at
  imports_good world rib [] good = tt
  imports_good world rib (session ∷ sessions) good =
      joined IsGoodOne (option_to_list (import_at world rib session prefix)) (flat_map (λ s. option_to_list (import_at world rib s prefix)) sessions)
      (import_good world rib session (route_at session.held prefix) good.0) (imports_good world rib sessions good.1)

-- ---- all candidates

network_found : (prefix : Prefix) (networks : List Network) (network : Network) → find (λ (n : Network). is_eq (prefix_cmp prefix n.prefix)) networks ≡ Some network → prefix ≡ network.prefix
network_found prefix [] network e = absurd (none-some network e)
network_found prefix (first ∷ others) network e = by (network_found prefix others network) (is_eq (prefix_cmp prefix first.prefix)) refl
  where
    by : (find (λ (n : Network). is_eq (prefix_cmp prefix n.prefix)) others ≡ Some network → prefix ≡ network.prefix) → (same : Bool) → is_eq (prefix_cmp prefix first.prefix) ≡ same → prefix ≡ network.prefix
    by later true is = prefix_cmp-Equal prefix first.prefix is ∙ ap (λ (n : Network). n.prefix) (same_Some first network (sym (cond-true (is_eq (prefix_cmp prefix first.prefix)) (Some first) _ is) ∙ e))
    by later false is = later (sym (cond-false (is_eq (prefix_cmp prefix first.prefix)) (Some first) _ is) ∙ e)

module _ (world : World) (rib : ℕ) (prefix : Prefix) where
  own_good : (found : Option Network) → network_at world.conf prefix ≡ found → AreGood prefix (option_to_list (option_map (network_candidate world.conf) found))
  own_good None is = tt
  own_good (Some network) is =
      let same = network_found prefix world.conf.networks network is in
      let context = network_context world.conf network.prefix in
      let begun : IsGood network.prefix (network_attrs network.prefix.family) = record { valid = network_valid network.prefix; family = refl } in
      (subst (λ (p : Prefix). IsGood p (with_set context network.set (network_attrs network.prefix.family))) (sym same) (set_good context network.set (network_attrs network.prefix.family) begun), tt)

  pub candidates_good : HoldGood prefix world → AreGood prefix (candidates world rib prefix)
  unfolding candidates
  candidates_good good =
      joined (IsGoodOne prefix) (option_to_list (option_map (network_candidate world.conf) (network_at world.conf prefix))) (flat_map (λ session. option_to_list (import_at world rib session prefix)) world.sessions)
      (own_good (network_at world.conf prefix) refl) (imports_good prefix world rib world.sessions good)
