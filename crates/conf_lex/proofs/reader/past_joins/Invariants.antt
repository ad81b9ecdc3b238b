use Rattle.std.proofs.Common.{◌≡◌, false, length}
use Rattle.conf_tree.specs.Joined.{joined_from}
use Rattle.conf_lex.specs.Spots.{IsInRange}
use Rattle.conf_lex.proofs.reader.past_joins.Given as goal

-- what is left once lines are joined stays the same
abbrev pub invariant-loop-at : goal.invariant-loop-at
invariant-loop-at l = record {
  within : IsInRange l.at;
  same : joined_from false l.at.line l.at.place l.at.rest.now ≡ joined_from false l.fn.spot.line l.fn.spot.place l.fn.spot.rest.now;
}

abbrev pub decreases-loop-at : goal.decreases-loop-at
decreases-loop-at l = length l.at.rest.now
