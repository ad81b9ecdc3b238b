use Rattle.std.proofs.Common.{◌≡◌, ◌≤◌, length}
use Rattle.filter_engine.specs.Skips.{AreLinked}
use Rattle.filter_engine.proofs.skips.link.Given as goal

abbrev pub invariant-loop-at : goal.invariant-loop-at
invariant-loop-at l = record {
  linked : AreLinked l.at l.buckets l.heads l.next;
  count : length l.heads ≡ length l.initial.heads;
  within : l.at ≤ length l.buckets;
}

abbrev pub decreases-loop-at : goal.decreases-loop-at
decreases-loop-at l = l.at
