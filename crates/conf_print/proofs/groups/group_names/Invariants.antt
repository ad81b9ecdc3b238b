use Rattle.std.proofs.Common.{◌≡◌, [], drop, fold}
use Rattle.conf_tree.specs.Canonical.{with_name}
use Rattle.conf_print.proofs.groups.group_names.Given as goal

-- the names so far, with those of the neighbours that are to come, are those of all
abbrev pub invariant-loop-neighbour : goal.invariant-loop-neighbour
invariant-loop-neighbour l =
    fold (λ names n. with_name names n.group) l.names.keys (drop l.neighbour-index l.neighbours)
    ≡ fold (λ names n. with_name names n.group) [] l.neighbours
