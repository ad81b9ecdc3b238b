use Rattle.std.proofs.Common.{◌≡◌, ◌-◌, ◌≤◌, drop, length}
use Rattle.filter_engine.specs.Asked.{AreRight}
use Rattle.filter_engine.specs.Progress.{course_of}
use Rattle.filter_engine.specs.Skips.{AreNext, wanted}
use Rattle.filter_engine.specs.Verdict.{begun, evaluated}
use Rattle.filter_engine.proofs.evaluation.walk_skipping.Given as goal

abbrev pub invariant-loop-at : goal.invariant-loop-at
invariant-loop-at g l = record {
  rest : evaluated (g.M.Members.conf_of l.sets) l.context l.origin (drop l.at l.rules) (course_of l.route l.progress)
      ≡ evaluated (g.M.Members.conf_of l.sets) l.context l.origin l.rules (begun l.route);
  right : AreRight (g.M.Members.conf_of l.sets) l.context l.origin l.asked;
  asked : l.buckets ≡ wanted (length l.table.heads.items) l.context;
  next : AreNext l.table.buckets.items l.buckets l.at l.places;
  within : l.at ≤ length l.rules;
}

abbrev pub decreases-loop-at : goal.decreases-loop-at
decreases-loop-at g l = length l.rules - l.at
