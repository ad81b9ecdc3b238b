-- The candidates of a prefix in two worlds that agree in what they go by.
use Rattle.std.proofs.Common.{◌≡◌, ℕ, Bool, true, false, not, ◌&&◌, List, [], ◌∷◌, ◌++◌, Option, Some, None, option_map, option_and_then, option_to_list, refl, sym, ap, subst, ◌∙◌}
use Rattle.std.specs.Prelude.{if◌then◌else◌}
use Rattle.std.specs.List.{AllByRecursion, flat_map}
use Rattle.std.proofs.lemmas.Grind.{flat_map-append}
use Rattle.net_base.specs.declared.addr.Addr.{Addr}
use Rattle.net_base.specs.declared.prefix.Prefix.{Prefix}
use Rattle.bgp_wire.specs.declared.open.OpenFacts.{OpenFacts}
use Rattle.attr_model.specs.declared.attrs.Attrs.{Attrs}
use Rattle.attr_model.specs.Routes.{route_at}
use Rattle.conf_tree.specs.declared.conf.Conf.{Conf}
use Rattle.conf_tree.specs.declared.conf.Network.{Network}
use Rattle.conf_tree.specs.declared.neighbour.Neighbour.{Neighbour}
use Rattle.decision.specs.declared.candidate.Candidate.{Candidate}
use Rattle.filter_engine.specs.declared.verdict.Hop.{Hop}
use Rattle.filter_engine.specs.Verdict.{verdict}
use Rattle.route_world.specs.declared.world.World.{World}
use Rattle.route_world.specs.declared.world.Session.{Session}
use Rattle.route_world.specs.declared.world.Hops.{Hops}
use Rattle.route_world.specs.World.{neighbour_at, is_valid, is_valid_by}
use Rattle.route_world.specs.Import.{candidate_of, candidates, has_number, import_at, import_context, imported, network_at, network_candidate, origin_at, with_given, with_set}
use Rattle.route_world.specs.Export.{is_local}
use Rattle.route_world.specs.Same.{AreSameAt, HaveSameAnswers, HoldSame, HoldsSame, hops_at, hops_of}

-- ---- lists

module _ {X : Type 0} (P : X → Type 0) where
  all_left : (xs ys : List X) → AllByRecursion P (xs ++ ys) → AllByRecursion P xs
  all_left [] ys all = tt
  all_left (x ∷ xs) ys all = (all.0, all_left xs ys all.1)

  all_right : (xs ys : List X) → AllByRecursion P (xs ++ ys) → AllByRecursion P ys
  all_right [] ys all = all
  all_right (x ∷ xs) ys all = all_right xs ys all.1

-- ---- the candidate of one session, by what it goes by

abbrev world_of : Conf → Hops → World
world_of conf hops = record { conf = conf; sessions = []; hops = hops }

abbrev session_of : Addr → OpenFacts → Session
session_of peer facts = record { peer = peer; facts = facts; held = [] }

abbrev made : Conf → Hops → Addr → OpenFacts → Attrs → Option (Attrs × Hop) → Option Candidate
made conf hops peer facts held passed = option_map (candidate_of (world_of conf hops) (session_of peer facts) held) passed

abbrev came : Conf → Hops → ℕ → Addr → OpenFacts → Prefix → Option Attrs → Option Candidate
came conf hops rib peer facts prefix route =
    option_and_then (λ held. option_and_then (imported (world_of conf hops) rib (session_of peer facts) prefix held) (neighbour_at conf peer)) route

import_is : (world : World) (rib : ℕ) (session : Session) (prefix : Prefix) →
    import_at world rib session prefix ≡ came world.conf world.hops rib session.peer session.facts prefix (route_at session.held prefix)
unfolding import_at
import_is world rib session prefix = refl

abbrev SameFor : Conf → Hops → Hops → Addr → Type 0
SameFor conf hops others hop = is_valid_by conf.qualify_default hop hops ≡ is_valid_by conf.qualify_default hop others

-- what holds of the next hop of a candidate from a neighbour
of_hop : (P : Addr → Type 0) (external : Bool) (peer hop : Addr) → AllByRecursion P (option_to_list (if is_local (origin_at external peer) then None else Some hop) ++ []) → P hop
of_hop P true peer hop all = all.0
of_hop P false peer hop all = all.0

module _ (conf : Conf) (hops others : Hops) (peer : Addr) (facts : OpenFacts) where
  made_same : (held : Attrs) (passed : Option (Attrs × Hop)) → AllByRecursion (SameFor conf hops others) (hops_of (option_to_list (made conf hops peer facts held passed)))
      → made conf hops peer facts held passed ≡ made conf others peer facts held passed
  made_same held None answers = refl
  made_same held (Some passed) answers =
      let attrs : Attrs = with_given passed.0 passed.1 in
      let answer = of_hop (SameFor conf hops others) facts.encoding.external peer attrs.hop answers in
      ap
      (λ (valid : Bool). Some (record {
        from = origin_at facts.encoding.external peer;
        attrs = record { number = 0; attrs = attrs };
        eligible = not (has_number conf.asn held.path) && valid;
        bgp_id = facts.id;
        own_as = conf.asn;
      }))
      answer

  made_hops : (held : Attrs) (passed : Option (Attrs × Hop)) →
      hops_of (option_to_list (made conf hops peer facts held passed)) ≡ hops_of (option_to_list (made conf others peer facts held passed))
  made_hops held None = refl
  made_hops held (Some passed) = refl

  module _ (rib : ℕ) (prefix : Prefix) where
    abbrev verdict_of : Attrs → Neighbour → Option (Attrs × Hop)
    verdict_of held neighbour = verdict conf conf.rules (import_context conf facts neighbour rib prefix) (with_set (import_context conf facts neighbour rib prefix) neighbour.set held)

    found_same : (held : Attrs) (found : Option Neighbour) → AllByRecursion (SameFor conf hops others) (hops_of (option_to_list (option_and_then (imported (world_of conf hops) rib (session_of peer facts) prefix held) found)))
        → option_and_then (imported (world_of conf hops) rib (session_of peer facts) prefix held) found ≡ option_and_then (imported (world_of conf others) rib (session_of peer facts) prefix held) found
    found_same held None answers = refl
    found_same held (Some neighbour) answers = made_same held (verdict_of held neighbour) answers

    found_hops : (held : Attrs) (found : Option Neighbour) →
        hops_of (option_to_list (option_and_then (imported (world_of conf hops) rib (session_of peer facts) prefix held) found))
        ≡ hops_of (option_to_list (option_and_then (imported (world_of conf others) rib (session_of peer facts) prefix held) found))
    found_hops held None = refl
    found_hops held (Some neighbour) = made_hops held (verdict_of held neighbour)

    came_same : (route : Option Attrs) → AllByRecursion (SameFor conf hops others) (hops_of (option_to_list (came conf hops rib peer facts prefix route)))
        → came conf hops rib peer facts prefix route ≡ came conf others rib peer facts prefix route
    came_same None answers = refl
    came_same (Some held) answers = found_same held (neighbour_at conf peer) answers

    came_hops : (route : Option Attrs) → hops_of (option_to_list (came conf hops rib peer facts prefix route)) ≡ hops_of (option_to_list (came conf others rib peer facts prefix route))
    came_hops None = refl
    came_hops (Some held) = found_hops held (neighbour_at conf peer)

-- ---- the candidates of all sessions

module _ (conf : Conf) (hops others : Hops) (rib : ℕ) (prefix : Prefix) where
  abbrev one_of : Session → Option Candidate
  one_of session = came conf hops rib session.peer session.facts prefix (route_at session.held prefix)

  abbrev other_of : Session → Option Candidate
  other_of session = came conf others rib session.peer session.facts prefix (route_at session.held prefix)

  abbrev all_of : (Session → Option Candidate) → List Session → List Candidate
  all_of candidate sessions = flat_map (λ session. option_to_list (candidate session)) sessions

  -- a session of the other world holds the same
  one_like : (session twin : Session) → HoldsSame prefix session twin → one_of session ≡ one_of twin
  one_like session twin same = rw (same.peer, same.facts, same.route) refl

  session_same : (session twin : Session) → HoldsSame prefix session twin → AllByRecursion (SameFor conf hops others) (hops_of (option_to_list (one_of session))) → one_of session ≡ other_of twin
  session_same session twin same answers =
      let like = one_like session twin same in
      like ∙ came_same conf hops others twin.peer twin.facts rib prefix (route_at twin.held prefix) (subst (λ (c : Option Candidate). AllByRecursion (SameFor conf hops others) (hops_of (option_to_list c))) like answers)

  session_hops : (session twin : Session) → HoldsSame prefix session twin → hops_of (option_to_list (one_of session)) ≡ hops_of (option_to_list (other_of twin))
  session_hops session twin same =
      ap (λ (c : Option Candidate). hops_of (option_to_list c)) (one_like session twin same)
      ∙ came_hops conf hops others twin.peer twin.facts rib prefix (route_at twin.held prefix)

  hops_joined : (xs ys : List Candidate) → hops_of (xs ++ ys) ≡ hops_of xs ++ hops_of ys
  hops_joined xs ys = flat_map-append _ xs ys

  sessions_same : (ones twins : List Session) → HoldSame prefix ones twins → AllByRecursion (SameFor conf hops others) (hops_of (all_of one_of ones)) → all_of one_of ones ≡ all_of other_of twins
  sessions_same [] [] same answers = refl
  sessions_same [] (twin ∷ twins) same answers = absurd same
  sessions_same (one ∷ ones) [] same answers = absurd same
  sessions_same (one ∷ ones) (twin ∷ twins) same answers =
      let front : List Candidate = option_to_list (one_of one) in
      let rest : List Candidate = all_of one_of ones in
      let parts = subst (AllByRecursion (SameFor conf hops others)) (hops_joined front rest) answers in
      let first = session_same one twin same.0 (all_left (SameFor conf hops others) (hops_of front) (hops_of rest) parts) in
      let others_too = sessions_same ones twins same.1 (all_right (SameFor conf hops others) (hops_of front) (hops_of rest) parts) in
      ap (λ (c : Option Candidate). option_to_list c ++ rest) first ∙ ap (λ (cs : List Candidate). option_to_list (other_of twin) ++ cs) others_too

  sessions_hops : (ones twins : List Session) → HoldSame prefix ones twins → hops_of (all_of one_of ones) ≡ hops_of (all_of other_of twins)
  sessions_hops [] [] same = refl
  sessions_hops [] (twin ∷ twins) same = absurd same
  sessions_hops (one ∷ ones) [] same = absurd same
  sessions_hops (one ∷ ones) (twin ∷ twins) same =
      hops_joined (option_to_list (one_of one)) (all_of one_of ones)
      ∙ (ap (λ (hs : List Addr). hs ++ hops_of (all_of one_of ones)) (session_hops one twin same.0)
      ∙ (ap (λ (hs : List Addr). hops_of (option_to_list (other_of twin)) ++ hs) (sessions_hops ones twins same.1)
      ∙ sym (hops_joined (option_to_list (other_of twin)) (all_of other_of twins))))

-- ---- the candidates of a prefix

abbrev network_part : Conf → Prefix → List Candidate
network_part conf prefix = option_to_list (option_map (network_candidate conf) (network_at conf prefix))

-- a network has no next hop of a neighbour
network_hops : (conf : Conf) (found : Option Network) → hops_of (option_to_list (option_map (network_candidate conf) found)) ≡ []
network_hops conf None = refl
network_hops conf (Some network) = refl

candidates_are : (world : World) (rib : ℕ) (prefix : Prefix) →
    candidates world rib prefix ≡ network_part world.conf prefix ++ flat_map (λ session. option_to_list (came world.conf world.hops rib session.peer session.facts prefix (route_at session.held prefix))) world.sessions
unfolding candidates import_at
candidates_are world rib prefix = refl

module _ (conf : Conf) (sessions twins : List Session) (hops others : Hops) (rib : ℕ) (prefix : Prefix) where
  abbrev one : World
  one = record { conf = conf; sessions = sessions; hops = hops }

  abbrev other : World
  other = record { conf = conf; sessions = twins; hops = others }

  shared_hops : HoldSame prefix sessions twins → hops_at one rib prefix ≡ hops_at other rib prefix
  shared_hops same =
      let network : List Candidate = network_part conf prefix in
      ap hops_of (candidates_are one rib prefix)
      ∙ (hops_joined conf hops others rib prefix network (all_of conf hops others rib prefix (one_of conf hops others rib prefix) sessions)
      ∙ (ap (λ (hs : List Addr). hops_of network ++ hs) (sessions_hops conf hops others rib prefix sessions twins same)
      ∙ (sym (hops_joined conf hops others rib prefix network (all_of conf hops others rib prefix (other_of conf hops others rib prefix) twins))
      ∙ ap hops_of (sym (candidates_are other rib prefix)))))

  shared_candidates : HoldSame prefix sessions twins → HaveSameAnswers one other (hops_at one rib prefix) → candidates one rib prefix ≡ candidates other rib prefix
  shared_candidates same answers =
      let network : List Candidate = network_part conf prefix in
      let from_sessions : List Candidate = all_of conf hops others rib prefix (one_of conf hops others rib prefix) sessions in
      let split = ap hops_of (candidates_are one rib prefix) ∙ hops_joined conf hops others rib prefix network from_sessions in
      let parts = subst (AllByRecursion (SameFor conf hops others)) split answers in
      let theirs = all_right (SameFor conf hops others) (hops_of network) (hops_of from_sessions) parts in
      candidates_are one rib prefix
      ∙ (ap (λ (cs : List Candidate). network ++ cs) (sessions_same conf hops others rib prefix sessions twins same theirs)
      ∙ sym (candidates_are other rib prefix))

module _ (one other : World) (rib : ℕ) (prefix : Prefix) where
  abbrev with_conf : Conf → World
  with_conf conf = record { conf = conf; sessions = other.sessions; hops = other.hops }

  pub same_hops : AreSameAt prefix one other → hops_at one rib prefix ≡ hops_at other rib prefix
  same_hops same =
      subst (λ (conf : Conf). hops_at one rib prefix ≡ hops_at (with_conf conf) rib prefix) same.conf
      (shared_hops one.conf one.sessions other.sessions one.hops other.hops rib prefix same.sessions)

  abbrev Follows : Conf → Type 0
  Follows conf = HaveSameAnswers one (with_conf conf) (hops_at one rib prefix) → candidates one rib prefix ≡ candidates (with_conf conf) rib prefix

  pub same_candidates : AreSameAt prefix one other → HaveSameAnswers one other (hops_at one rib prefix) → candidates one rib prefix ≡ candidates other rib prefix
  same_candidates same =
      subst Follows same.conf (shared_candidates one.conf one.sessions other.sessions one.hops other.hops rib prefix same.sessions)
