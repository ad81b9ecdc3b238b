use Rattle.std.proofs.Common.{◌≡◌, ◌++◌, drop, flat_map}
use Rattle.conf_tree.specs.Canonical.{prefix_set_text}
use Rattle.conf_print.proofs.sets.print_prefix_sets.Given as goal

-- the text so far, followed by what is to come, is the whole
abbrev pub invariant-loop-set : goal.invariant-loop-set
invariant-loop-set l = l.text ++ flat_map prefix_set_text (drop l.set-index l.sets) ≡ l.fn.text ++ flat_map prefix_set_text l.sets
