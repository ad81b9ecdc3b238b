use Rattle.std.proofs.Common.{◌∙◌, not, ap, sym}
use Rattle.decision.specs.declared.candidate.Candidate.{Candidate}
use Rattle.decision.specs.Points.{beats}
use Rattle.decision.proofs.Flags.{pass_more, drop_more, walked_all}
use Rattle.decision.proofs.thinning.drop_beaten.Goals as goal
use Rattle.decision.proofs.thinning.drop_beaten.Goals.{then-beats, else-beats}

pub loop-at-preserved : goal.loop-at-preserved
loop-at-preserved c =
    let test = λ (candidate : Candidate). not (beats c.args.point c.args.champion.now candidate) in
    elim c.if-beats.branch [
      | then-beats w ↦ w.left-is ∙ drop_more test c.args.left.now c.args.candidates.now c.loop-at.at c.index-candidates-at.result c.loop-at.left c.loop-at-test.true c.index-candidates-at.is (ap not (sym c.beats.ensures ∙ w.if-beats.true)) c.loop-at.invariant
      | else-beats w ↦ w.left-is ∙ pass_more test c.args.left.now c.args.candidates.now c.loop-at.at c.index-candidates-at.result c.loop-at.left c.loop-at-test.true c.index-candidates-at.is (ap not (sym c.beats.ensures ∙ w.if-beats.false)) c.loop-at.invariant
    ]

pub returns : goal.returns
returns c = c.loop-at.invariant ∙ walked_all (λ candidate. not (beats c.args.point c.args.champion.now candidate)) c.loop-at.at c.args.left.now c.args.candidates.now c.loop-at-test.false
