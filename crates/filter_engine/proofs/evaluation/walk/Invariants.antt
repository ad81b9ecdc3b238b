use Rattle.std.proofs.Common.{◌≡◌, drop}
use Rattle.filter_engine.specs.Asked.{AreRight}
use Rattle.filter_engine.specs.Verdict.{begun, evaluated}
use Rattle.filter_engine.specs.Progress.{course_of}
use Rattle.filter_engine.proofs.evaluation.walk.Given as goal

abbrev pub invariant-loop-rule : goal.invariant-loop-rule
invariant-loop-rule g l = record {
  rest : evaluated (g.M.Members.conf_of l.sets) l.context l.origin (drop l.rule-index l.rules) (course_of l.route l.progress)
      ≡ evaluated (g.M.Members.conf_of l.sets) l.context l.origin l.rules (begun l.route);
  right : AreRight (g.M.Members.conf_of l.sets) l.context l.origin l.asked;
}
