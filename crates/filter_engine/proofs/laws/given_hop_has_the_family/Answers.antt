use Rattle.filter_engine.proofs.HopFamily.{given_fits}
use Rattle.filter_engine.proofs.laws.given_hop_has_the_family.Goals as goal

pub returns : goal.returns
returns c conf rules context attrs told address e = given_fits context conf rules attrs told address e
