use Rattle.std.proofs.Common.{◌≡◌, ◌++◌, drop, option_to_list}
use Rattle.std.specs.List.{flat_map}
use Rattle.route_world.specs.Import.{import_at}
use Rattle.route_world.proofs.importing.candidates.Given as goal

-- the candidates so far, followed by those of the sessions that are left, are all
abbrev pub invariant-loop-session : goal.invariant-loop-session
invariant-loop-session g l =
    l.found ++ flat_map (λ session. option_to_list (import_at l.world l.rib session l.prefix)) (drop l.session-index l.session-items)
    ≡ l.initial.found ++ flat_map (λ session. option_to_list (import_at l.world l.rib session l.prefix)) l.session-items
