use Rattle.std.proofs.Common.{◌≡◌, ◌≤◌, length, take}
use Rattle.conf_tree.specs.Cuts as cuts
use Rattle.conf_tree.specs.Macros.{no_macros}
use Rattle.conf_tree.specs.Joined.{joined}
use Rattle.conf_tree.specs.Tokens.{lines_read}
use Rattle.conf_lex.specs.Reading.{put_tokens}
use Rattle.conf_lex.specs.Tables.{macros_of}
use Rattle.conf_lex.specs.Views.{rules_of}
use Rattle.conf_lex.proofs.reading.tokens.Given as goal

-- The tokens so far, with those of what is left, are the whole.
abbrev pub invariant-loop-reader : goal.invariant-loop-reader
invariant-loop-reader l = record {
  within : length l.reader ≤ 134217729;
  so_far : put_tokens l.tokens (lines_read (rules_of l.rules) (macros_of l.macros) l.size l.reader) ≡ lines_read (cuts.rules_of l.limit l.text) no_macros 0 (joined (take l.limit l.text));
}

abbrev pub decreases-loop-reader : goal.decreases-loop-reader
decreases-loop-reader l = length l.reader
