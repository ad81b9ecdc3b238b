use Rattle.std.proofs.Common.{◌≡◌, length}
use Rattle.conf_tree.specs.Cuts.{behind}
use Rattle.conf_lex.specs.Views.{rules_of}
use Rattle.conf_lex.specs.Parts.{goes_on}
use Rattle.conf_lex.proofs.run.pass.Given as goal

-- What stands behind the run stays the same.
abbrev pub invariant-loop-rules : goal.invariant-loop-rules
invariant-loop-rules l = behind (goes_on (rules_of l.rules) l.part) l.reader ≡ behind (goes_on (rules_of l.rules) l.part) l.fn.reader

abbrev pub decreases-loop-rules : goal.decreases-loop-rules
decreases-loop-rules l = length l.reader
