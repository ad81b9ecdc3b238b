use Rattle.std.proofs.Common.{◌≡◌, ◌+◌, ◌-◌, ◌≤◌, length, drop}
use Rattle.ctl_show.specs.Commands.{run}
use Rattle.ctl_show.proofs.read.run.Given as goal

-- the words that were counted, and those that follow behind them, are the run
abbrev pub invariant-loop-count : goal.invariant-loop-count
invariant-loop-count l = record {
  counted : l.count + run (drop l.count l.pieces) (drop l.count l.words) ≡ run l.pieces l.words;
  in_pieces : l.count ≤ length l.pieces;
  in_words : l.count ≤ length l.words;
}

abbrev pub decreases-loop-count : goal.decreases-loop-count
decreases-loop-count l = length l.pieces - l.count
