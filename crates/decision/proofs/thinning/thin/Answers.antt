use Rattle.std.proofs.Common.{◌∙◌, not, ap, sym}
use Rattle.std.specs.Prelude.{option_copied}
use Rattle.decision.specs.Points.{beats, picked}
use Rattle.decision.proofs.Flags.{picked-kept}
use Rattle.decision.proofs.Champions.{nobody_goes, beaten_go}
use Rattle.decision.proofs.Orders.{order_of}
use Rattle.decision.proofs.thinning.thin.Goals as goal

pub returns-in-Some : goal.returns-in-Some
returns-in-Some c =
    ap (λ flags. picked flags c.args.candidates.now) c.drop_beaten.ensures
    ∙ (picked-kept (λ candidate. not (beats c.args.point c.in-Some.champion.now candidate)) c.args.left.now c.args.candidates.now
    ∙ beaten_go (beats c.args.point) (order_of c.args.point) (picked c.args.left.now c.args.candidates.now) c.in-Some.champion.now (sym c.champion_among.ensures ∙ ap option_copied c.in-Some.is))

pub returns-in_default : goal.returns-in_default
returns-in_default c = nobody_goes (beats c.args.point) (order_of c.args.point) (picked c.args.left.now c.args.candidates.now) (sym c.champion_among.ensures ∙ ap option_copied c.in_default.is)
