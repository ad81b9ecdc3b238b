use Rattle.std.proofs.Common.{sym, subst}
use Rattle.attr_model.specs.Valid.{IsValid}
use Rattle.filter_engine.specs.Verdict.{Course, begun}
use Rattle.filter_engine.proofs.VerdictValid.{evaluated_valid, said_valid}
use Rattle.filter_engine.proofs.evaluation.evaluate_skipping.Goals as goal

pub returns-clause-valid : goal.returns-clause-valid
returns-clause-valid g c =
    λ valid. said_valid c.args.route.now _ c.verdict_of.result
    (subst (λ (course : Course). IsValid course.attrs) (sym c.in_ok-progress.ensures) (evaluated_valid (g.M.Members.conf_of c.args.sets.now) c.args.context.now c.origin_as-origin.result c.as_slice-rules.result.now (begun c.args.route.now) valid))
    c.verdict_of.ensures
