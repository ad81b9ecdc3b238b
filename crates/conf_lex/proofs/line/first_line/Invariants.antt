use Rattle.std.proofs.Common.{◌≡◌, length}
use Rattle.conf_tree.specs.Cuts.{first_line, in_front_of}
use Rattle.conf_lex.specs.Views.{rules_of}
use Rattle.conf_lex.proofs.line.first_line.Given as goal

-- The tokens so far, with the rest of the line, are the whole line.
abbrev pub invariant-loop-tokens : goal.invariant-loop-tokens
invariant-loop-tokens l = in_front_of l.tokens (first_line (rules_of l.rules) l.reader) ≡ first_line (rules_of l.rules) l.fn.reader

abbrev pub decreases-loop-tokens : goal.decreases-loop-tokens
decreases-loop-tokens l = length l.reader
