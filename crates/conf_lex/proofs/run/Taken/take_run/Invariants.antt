use Rattle.std.proofs.Common.{◌≡◌, length}
use Rattle.conf_tree.specs.Cuts.{run, behind}
use Rattle.conf_lex.specs.Views.{rules_of}
use Rattle.conf_lex.specs.Parts.{goes_on, taken_behind}
use Rattle.conf_lex.proofs.run.Taken.take_run.Given as goal

-- What was taken, with the rest of the run, is the whole of it.
abbrev pub invariant-loop-seen : goal.invariant-loop-seen
invariant-loop-seen l = record {
  so_far : taken_behind l.self (run (goes_on (rules_of l.rules) l.part) l.reader) ≡ taken_behind l.fn.self (run (goes_on (rules_of l.rules) l.part) l.fn.reader);
  left : behind (goes_on (rules_of l.rules) l.part) l.reader ≡ behind (goes_on (rules_of l.rules) l.part) l.fn.reader;
}

abbrev pub decreases-loop-seen : goal.decreases-loop-seen
decreases-loop-seen l = length l.reader
