use Rattle.std.proofs.Common.{◌∙◌, ap}
use Rattle.decision.specs.declared.candidate.Candidate.{Candidate}
use Rattle.decision.specs.Points.{picked}
use Rattle.decision.proofs.Flags.{pass_more, drop_more, walked_all, picked-kept}
use Rattle.decision.proofs.thinning.keep_eligible.Goals as goal
use Rattle.decision.proofs.thinning.keep_eligible.Goals.{then-not-candidate, else-not-candidate}

pub loop-at-preserved : goal.loop-at-preserved
loop-at-preserved c =
    let test = λ (candidate : Candidate). candidate.eligible in
    elim c.if-not-candidate.branch [
      | then-not-candidate w ↦ w.left-is ∙ drop_more test c.args.left.now c.args.candidates.now c.loop-at.at c.index-candidates-at.result c.loop-at.left c.loop-at-test.true c.index-candidates-at.is w.if-not-candidate.true c.loop-at.invariant
      | else-not-candidate w ↦ w.left-is ∙ pass_more test c.args.left.now c.args.candidates.now c.loop-at.at c.index-candidates-at.result c.loop-at.left c.loop-at-test.true c.index-candidates-at.is w.if-not-candidate.false c.loop-at.invariant
    ]

pub returns : goal.returns
returns c =
    let test = λ (candidate : Candidate). candidate.eligible in
    ap (λ flags. picked flags c.args.candidates.now) (c.loop-at.invariant ∙ walked_all test c.loop-at.at c.args.left.now c.args.candidates.now c.loop-at-test.false) ∙ picked-kept test c.args.left.now c.args.candidates.now
