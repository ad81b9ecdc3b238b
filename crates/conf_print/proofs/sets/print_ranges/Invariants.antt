use Rattle.std.proofs.Common.{◌≡◌, ◌++◌, drop, flat_map}
use Rattle.conf_tree.specs.Canonical.{range_line}
use Rattle.conf_print.proofs.sets.print_ranges.Given as goal

-- the text so far, followed by what is to come, is the whole
abbrev pub invariant-loop-entry : goal.invariant-loop-entry
invariant-loop-entry l = l.text ++ flat_map range_line (drop l.entry-index l.entries) ≡ l.fn.text ++ flat_map range_line l.entries
