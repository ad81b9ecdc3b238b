use Rattle.std.proofs.Common.{◌≡◌, ◌++◌, drop, flat_map}
use Rattle.conf_tree.specs.Canonical.{number_line}
use Rattle.conf_print.proofs.sets.print_numbers.Given as goal

-- the text so far, followed by what is to come, is the whole
abbrev pub invariant-loop-number : goal.invariant-loop-number
invariant-loop-number l = l.text ++ flat_map number_line (drop l.number-index l.numbers) ≡ l.fn.text ++ flat_map number_line l.numbers
