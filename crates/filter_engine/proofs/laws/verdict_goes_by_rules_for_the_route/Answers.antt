use Rattle.filter_engine.proofs.Skipping.{same_for}
use Rattle.filter_engine.proofs.laws.verdict_goes_by_rules_for_the_route.Goals as goal

pub returns : goal.returns
returns c conf rules context attrs = same_for conf context rules attrs
