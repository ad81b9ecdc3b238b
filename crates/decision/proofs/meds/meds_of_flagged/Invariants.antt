use Rattle.std.proofs.Common.{◌≡◌, ◌≤◌, ◌++◌, drop, length, map}
use Rattle.decision.specs.Points.{picked}
use Rattle.decision.specs.Meds.{told_by}
use Rattle.decision.proofs.meds.meds_of_flagged.Given as goal

abbrev pub invariant-loop-at : goal.invariant-loop-at
invariant-loop-at l = record {
  told : l.meds.items ++ map told_by (picked (drop l.at l.left) (drop l.at l.candidates)) ≡ map told_by (picked l.left l.candidates);
  room : length l.meds.items ≤ l.at;
}
