-- A prefix that nobody speaks of has no candidates.
use Rattle.std.proofs.Common.{◌≡◌, ℕ, List, [], ◌∷◌, ◌++◌, Option, Some, None, option_map, option_and_then, option_to_list, refl, ap, ◌∙◌}
use Rattle.std.specs.List.{AllByRecursion, flat_map}
use Rattle.net_base.specs.declared.prefix.Prefix.{Prefix}
use Rattle.attr_model.specs.declared.attrs.Attrs.{Attrs}
use Rattle.attr_model.specs.Routes.{route_at}
use Rattle.conf_tree.specs.declared.conf.Network.{Network}
use Rattle.decision.specs.declared.candidate.Candidate.{Candidate}
use Rattle.route_world.specs.declared.world.World.{World}
use Rattle.route_world.specs.declared.world.Session.{Session}
use Rattle.route_world.specs.World.{neighbour_at}
use Rattle.route_world.specs.Import.{candidates, import_at, imported, network_at, network_candidate}

module _ (world : World) (rib : ℕ) (prefix : Prefix) where
  no_import : (session : Session) → route_at session.held prefix ≡ None → import_at world rib session prefix ≡ None
  unfolding import_at
  no_import session none =
      ap (option_and_then (λ (held : Attrs). option_and_then (imported world rib session prefix held) (neighbour_at world.conf session.peer))) none

  no_imports : (sessions : List Session) → AllByRecursion (λ (session : Session). route_at session.held prefix ≡ None) sessions → flat_map (λ session. option_to_list (import_at world rib session prefix)) sessions ≡ []
  no_imports [] none = refl
  no_imports (session ∷ sessions) none = rw (no_import session none.0) (no_imports sessions none.1)

  pub no_candidates : network_at world.conf prefix ≡ None → AllByRecursion (λ (session : Session). route_at session.held prefix ≡ None) world.sessions → candidates world rib prefix ≡ []
  unfolding candidates
  no_candidates no_network none =
      ap (λ (found : Option Network). option_to_list (option_map (network_candidate world.conf) found) ++ flat_map (λ session. option_to_list (import_at world rib session prefix)) world.sessions) no_network
      ∙ no_imports world.sessions none
