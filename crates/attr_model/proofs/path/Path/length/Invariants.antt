use Rattle.std.proofs.Common.{◌≡◌, ◌≤◌, ◌*◌, ◌^◌, take}
use Rattle.std.specs.Prelude.{sum_by}
use Rattle.attr_model.specs.Path.{count_of}
use Rattle.attr_model.proofs.path.Path.length.Given as goal

abbrev pub invariant-loop-segment : goal.invariant-loop-segment
invariant-loop-segment l = record {
  so_far : l.total ≡ sum_by count_of (take l.segment-index l.segment-items);
  bounded : l.total ≤ l.segment-index * 2 ^ 64;
}
