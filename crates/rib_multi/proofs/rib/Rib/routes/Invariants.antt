use Rattle.std.proofs.Common.{◌≡◌, ◌++◌}
use Rattle.std.specs.List.{flat_map}
use Rattle.rib_multi.specs.Shown.{routes_of}
use Rattle.rib_multi.proofs.rib.Rib.routes.Given as goal

-- the routes so far, followed by those of the rows that are left, are all
abbrev pub invariant-loop-prefix : goal.invariant-loop-prefix
invariant-loop-prefix l =
    l.routes ++ flat_map (λ entry. routes_of entry.0 entry.1) l.prefix-iterator ≡ flat_map (λ entry. routes_of entry.0 entry.1) l.initial.prefix-iterator
