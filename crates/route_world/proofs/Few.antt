-- How many candidates a prefix has: its network, and one of each session at most.
use Rattle.std.proofs.Common.{ℕ, ◌+◌, ◌≤◌, List, [], ◌∷◌, ◌++◌, length, map, Option, Some, None, option_map, option_to_list, arith, lit≤, length-append}
use Rattle.std.specs.List.{flat_map}
use Rattle.net_base.specs.declared.prefix.Prefix.{Prefix}
use Rattle.decision.specs.declared.candidate.Candidate.{Candidate}
use Rattle.route_world.specs.declared.world.World.{World}
use Rattle.route_world.specs.declared.world.Session.{Session}
use Rattle.route_world.specs.Import.{candidates, import_at, network_candidate, network_at}

at_most_one : (found : Option Candidate) → length (option_to_list found) ≤ 1
at_most_one None = lit≤ tt
at_most_one (Some candidate) = lit≤ tt

at_most_each : (found : Session → Option Candidate) (sessions : List Session) → length (flat_map (λ s. option_to_list (found s)) sessions) ≤ length sessions
at_most_each found [] = lit≤ tt
at_most_each found (session ∷ sessions) =
    let rest : List Candidate = flat_map (λ s. option_to_list (found s)) sessions in
    omega (arith, length-append (option_to_list (found session)) rest, at_most_one (found session), at_most_each found sessions)

pub few_candidates : (world : World) (rib : ℕ) (prefix : Prefix) → length (candidates world rib prefix) ≤ 1 + length world.sessions
unfolding candidates
few_candidates world rib prefix =
    let network : List Candidate = option_to_list (option_map (network_candidate world.conf) (network_at world.conf prefix)) in
    let others : List Candidate = flat_map (λ session. option_to_list (import_at world rib session prefix)) world.sessions in
    omega (
      arith,
      length-append network others,
      at_most_one (option_map (network_candidate world.conf) (network_at world.conf prefix)),
      at_most_each (λ session. import_at world rib session prefix) world.sessions,
    )
