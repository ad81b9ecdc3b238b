use Rattle.std.proofs.Common.{◌≡◌, ◌++◌, drop, map}
use Rattle.route_world.specs.Loc.{row_of}
use Rattle.route_world.proofs.rows.push_rows.Given as goal

-- the rows so far, followed by those of the candidates that are left, are all
abbrev pub invariant-loop-candidate : goal.invariant-loop-candidate
invariant-loop-candidate l =
    l.rows ++ map (row_of l.best l.prefix) (drop l.candidate-index l.candidate-items)
    ≡ l.initial.rows ++ map (row_of l.best l.prefix) l.candidate-items
