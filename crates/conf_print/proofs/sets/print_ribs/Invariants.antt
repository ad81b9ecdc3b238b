use Rattle.std.proofs.Common.{◌≡◌, ◌++◌, drop, flat_map}
use Rattle.conf_tree.specs.Canonical.{rib_line}
use Rattle.conf_print.proofs.sets.print_ribs.Given as goal

-- the text so far, followed by what is to come, is the whole
abbrev pub invariant-loop-rib : goal.invariant-loop-rib
invariant-loop-rib l = l.text ++ flat_map rib_line (drop l.rib-index l.ribs) ≡ l.fn.text ++ flat_map rib_line l.ribs
