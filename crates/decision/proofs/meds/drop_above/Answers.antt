use Rattle.std.proofs.Common.{◌∙◌, not, ap, sym}
use Rattle.std.specs.List.{list_any}
use Rattle.decision.specs.declared.candidate.Candidate.{Candidate}
use Rattle.decision.specs.Meds.{is_lower_for}
use Rattle.decision.proofs.Flags.{pass_more, drop_more, walked_all}
use Rattle.decision.proofs.meds.drop_above.Goals as goal
use Rattle.decision.proofs.meds.drop_above.Goals.{then-is_above, else-is_above}

pub loop-at-preserved : goal.loop-at-preserved
loop-at-preserved c =
    let test = λ (candidate : Candidate). not (list_any (is_lower_for candidate) c.args.meds.now) in
    elim c.if-is_above.branch [
      | then-is_above w ↦ w.left-is ∙ drop_more test c.args.left.now c.args.candidates.now c.loop-at.at c.index-candidates-at.result c.loop-at.left c.loop-at-test.true c.index-candidates-at.is (ap not (sym c.is_above.ensures ∙ w.if-is_above.true)) c.loop-at.invariant
      | else-is_above w ↦ w.left-is ∙ pass_more test c.args.left.now c.args.candidates.now c.loop-at.at c.index-candidates-at.result c.loop-at.left c.loop-at-test.true c.index-candidates-at.is (ap not (sym c.is_above.ensures ∙ w.if-is_above.false)) c.loop-at.invariant
    ]

pub returns : goal.returns
returns c = c.loop-at.invariant ∙ walked_all (λ candidate. not (list_any (is_lower_for candidate) c.args.meds.now)) c.loop-at.at c.args.left.now c.args.candidates.now c.loop-at-test.false
