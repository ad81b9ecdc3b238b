use Rattle.std.proofs.Common.{◌≡◌, ◌++◌, drop, flat_map, filter}
use Rattle.conf_tree.specs.Canonical.{is_of_group, neighbour_text}
use Rattle.conf_print.proofs.groups.print_members.Given as goal

-- the text so far, followed by what is to come, is the whole
abbrev pub invariant-loop-neighbour : goal.invariant-loop-neighbour
invariant-loop-neighbour l =
    l.text ++ flat_map (neighbour_text l.conf) (filter (is_of_group l.name) (drop l.neighbour-index l.conf.neighbours))
    ≡ l.fn.text ++ flat_map (neighbour_text l.conf) (filter (is_of_group l.name) l.conf.neighbours)
