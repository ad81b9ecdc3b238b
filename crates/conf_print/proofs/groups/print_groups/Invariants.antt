use Rattle.std.proofs.Common.{◌≡◌, ◌++◌, flat_map}
use Rattle.conf_tree.specs.Canonical.{group_text}
use Rattle.conf_print.proofs.groups.print_groups.Given as goal

-- the text so far, followed by what is to come, is the whole
abbrev pub invariant-loop-name : goal.invariant-loop-name
invariant-loop-name l = l.text ++ flat_map (group_text l.conf) l.name-iterator ≡ l.fn.text ++ flat_map (group_text l.conf) l.names.keys
