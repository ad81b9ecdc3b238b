use Rattle.std.proofs.Common.{subst}
use Rattle.filter_engine.specs.Verdict.{Says}
use Rattle.route_world.proofs.importing.verdict_of.Goals as goal

-- a verdict goes by the sets alone
pub returns : goal.returns
returns g c =
    let same = c.requires.same_sets in
    subst (λ said. Says c.args.route.now said c.in_ok-verdict.verdict)
    (c.verdict_goes_by_sets.ensures.sets _ _ _ _ _ same.prefix_sets same.as_sets same.origin_sets same.roas)
    c.in_ok-verdict.ensures.verdict
