-- The numbers of candidates have their width, where those of the held routes have, and the configuration can be written.
use Rattle.std.proofs.Common.{◌≡◌, ℕ, Bool, true, false, List, [], ◌∷◌, ◌++◌, Option, Some, None, option_map, option_and_then, option_to_list, refl, sym, ap, ◌∙◌, subst}
use Rattle.std.specs.Prelude.{find, IfSome}
use Rattle.std.specs.Ordering.{is_eq}
use Rattle.std.specs.List.{AllByRecursion, flat_map}
use Rattle.std.proofs.lemmas.Bool.{cond-true, cond-false}
use Rattle.std.proofs.lemmas.Option.{none-some, same_Some}
use Rattle.net_base.specs.declared.addr.Family.{Family}
use Rattle.net_base.specs.declared.prefix.Prefix.{Prefix}
use Rattle.net_base.specs.Order.{prefix_cmp}
use Rattle.attr_model.specs.declared.attrs.Attrs.{Attrs}
use Rattle.attr_model.specs.Routes.{route_at}
use Rattle.attr_codec.specs.Width.{HaveWidth, IsNumber}
use Rattle.conf_tree.specs.declared.conf.Network.{Network}
use Rattle.conf_tree.specs.declared.draft.SetPlace.TheVariants as places
use Rattle.conf_tree.specs.declared.neighbour.Neighbour.{Neighbour}
use Rattle.conf_tree.specs.Readable.{Each, IsNeighbour, IsNetwork, IsReadable}
use Rattle.decision.specs.declared.candidate.Candidate.{Candidate}
use Rattle.filter_engine.specs.declared.verdict.Hop.{Hop}
use Rattle.filter_engine.specs.Conditions.{same_address}
use Rattle.filter_engine.specs.Verdict.{verdict}
use Rattle.route_world.specs.declared.world.World.{World}
use Rattle.route_world.specs.declared.world.Session.{Session}
use Rattle.route_world.specs.World.{neighbour_at}
use Rattle.route_world.specs.Import.{candidate_of, candidates, import_at, import_context, imported, network_at, network_attrs, network_candidate, network_context, with_set}
use Rattle.route_world.specs.Sent.{HasWidthAt, HaveWidthAt}
use Rattle.route_world.proofs.GoodCandidates.{joined}
use Rattle.route_world.proofs.Widths.{given_wide, of_range, set_wide, verdict_wide}

-- what is found in a list is so where each entry is
found_each : {X : Type 0} (Is : X → Type 0) (test : X → Bool) (xs : List X) (x : X) → Each Is xs → find test xs ≡ Some x → Is x
found_each Is test [] x all e = absurd (none-some x e)
found_each Is test (y ∷ ys) x all e = by (found_each Is test ys x all.1) (test y) refl
  where
    by : (find test ys ≡ Some x → Is x) → (found : Bool) → test y ≡ found → Is x
    by later true is = subst Is (same_Some y x (sym (cond-true (test y) (Some y) _ is) ∙ e)) all.0
    by later false is = later (sym (cond-false (test y) (Some y) _ is) ∙ e)

abbrev pub IsWideOne : Candidate → Type 0
IsWideOne candidate = HaveWidth candidate.attrs.attrs

abbrev AreWide : List Candidate → Type 0
AreWide found = AllByRecursion IsWideOne found

network_wide : (family : Family) → HaveWidth (network_attrs family)
network_wide family = record { path = tt; med = tt; local_pref = tt; aggregator = tt; communities = tt; large = tt; unknown = tt }

module _ (world : World) (rib : ℕ) (prefix : Prefix) (ready : IsReadable world.conf) where
  own : IsNumber world.conf.asn
  own = of_range 1 world.conf.asn ready.asn

  -- ---- routes of neighbours

  module _ (session : Session) (held : Attrs) (peer : IsNumber session.facts.asn) (w : HaveWidth held) where
    passed_wide : (neighbour : Neighbour) (passed : Option (Attrs × Hop)) → IsNeighbour world.conf neighbour →
        verdict world.conf world.conf.rules (import_context world.conf session.facts neighbour rib prefix) (with_set (import_context world.conf session.facts neighbour rib prefix) neighbour.set held) ≡ passed →
        AreWide (option_to_list (option_map (candidate_of world session held) passed))
    passed_wide neighbour None is e = tt
    passed_wide neighbour (Some passed) is e =
        let context = import_context world.conf session.facts neighbour rib prefix in
        let begun = set_wide context own peer places.Neighbour neighbour.set held is.set.0 w in
        (given_wide passed.0 passed.1 (verdict_wide context own peer world.conf world.conf world.conf.rules (with_set context neighbour.set held) passed ready.rules begun e), tt)

    found_wide : (found : Option Neighbour) → neighbour_at world.conf session.peer ≡ found → AreWide (option_to_list (option_and_then (imported world rib session prefix held) found))
    found_wide None is = tt
    found_wide (Some neighbour) is =
        passed_wide neighbour _ (found_each (IsNeighbour world.conf) (λ (n : Neighbour). same_address n.address session.peer) world.conf.neighbours neighbour ready.neighbours is) refl

  import_wide : (session : Session) (route : Option Attrs) → IsNumber session.facts.asn → IfSome route HaveWidth →
      AreWide (option_to_list (option_and_then (λ held. option_and_then (imported world rib session prefix held) (neighbour_at world.conf session.peer)) route))
  import_wide session None peer w = tt
  import_wide session (Some held) peer w = found_wide session held peer w (neighbour_at world.conf session.peer) refl

  imports_wide : (sessions : List Session) → AllByRecursion (HasWidthAt prefix) sessions → AreWide (flat_map (λ session. option_to_list (import_at world rib session prefix)) sessions)
  unfolding import_at
  imports_wide [] said = tt
  imports_wide (session ∷ sessions) said =
      joined IsWideOne (option_to_list (import_at world rib session prefix)) (flat_map (λ s. option_to_list (import_at world rib s prefix)) sessions)
      (import_wide session (route_at session.held prefix) said.0.asn said.0.route) (imports_wide sessions said.1)

  -- ---- all candidates

  own_wide : (found : Option Network) → network_at world.conf prefix ≡ found → AreWide (option_to_list (option_map (network_candidate world.conf) found))
  own_wide None is = tt
  own_wide (Some network) is =
      let good = found_each IsNetwork (λ (n : Network). is_eq (prefix_cmp prefix n.prefix)) world.conf.networks network ready.networks is in
      (set_wide (network_context world.conf network.prefix) own own places.Network network.set (network_attrs network.prefix.family) good.0 (network_wide network.prefix.family), tt)

  pub candidates_wide : HaveWidthAt prefix world → AreWide (candidates world rib prefix)
  unfolding candidates
  candidates_wide said =
      joined IsWideOne (option_to_list (option_map (network_candidate world.conf) (network_at world.conf prefix))) (flat_map (λ session. option_to_list (import_at world rib session prefix)) world.sessions)
      (own_wide (network_at world.conf prefix) refl) (imports_wide world.sessions said)
