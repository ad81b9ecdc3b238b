use Rattle.std.proofs.Common.{◌≡◌, ◌++◌, drop, flat_map}
use Rattle.conf_tree.specs.Canonical.{roa_line}
use Rattle.conf_print.proofs.sets.print_roas.Given as goal

-- the text so far, followed by what is to come, is the whole
abbrev pub invariant-loop-entry : goal.invariant-loop-entry
invariant-loop-entry l = l.text ++ flat_map roa_line (drop l.entry-index l.entries) ≡ l.fn.text ++ flat_map roa_line l.entries
