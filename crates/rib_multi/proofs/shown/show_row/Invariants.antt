use Rattle.std.proofs.Common.{◌≡◌, ◌++◌, drop, map, option_copied}
use Rattle.rib_multi.specs.Shown.{route_of}
use Rattle.rib_multi.proofs.shown.show_row.Given as goal

-- the routes so far, followed by those of the candidates that are left, are all
abbrev pub invariant-loop-candidate : goal.invariant-loop-candidate
invariant-loop-candidate l =
    l.routes ++ map (route_of l.prefix (option_copied l.best)) (drop l.candidate-index l.candidate-items) ≡ l.initial.routes ++ map (route_of l.prefix (option_copied l.best)) l.candidate-items
