use Rattle.std.proofs.Common.{◌≡◌, ◌++◌, drop, flat_map, filter}
use Rattle.conf_tree.specs.Canonical.{is_alone, neighbour_text}
use Rattle.conf_print.proofs.groups.print_alone.Given as goal

-- the text so far, followed by what is to come, is the whole
abbrev pub invariant-loop-neighbour : goal.invariant-loop-neighbour
invariant-loop-neighbour l =
    l.text ++ flat_map (neighbour_text l.conf) (filter is_alone (drop l.neighbour-index l.conf.neighbours))
    ≡ l.fn.text ++ flat_map (neighbour_text l.conf) (filter is_alone l.conf.neighbours)
