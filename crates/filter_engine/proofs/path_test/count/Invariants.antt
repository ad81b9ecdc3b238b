use Rattle.std.proofs.Common.{◌≡◌, ◌≤◌, ◌+◌, ◌*◌, ◌^◌, drop, length}
use Rattle.filter_engine.specs.Conditions.{path_numbers}
use Rattle.filter_engine.proofs.path_test.count.Given as goal

abbrev pub invariant-loop-segment : goal.invariant-loop-segment
invariant-loop-segment l = record {
  so_far : l.total + length (path_numbers (drop l.segment-index l.path)) ≡ length (path_numbers l.path);
  bounded : l.total ≤ l.segment-index * 2 ^ 64;
}
