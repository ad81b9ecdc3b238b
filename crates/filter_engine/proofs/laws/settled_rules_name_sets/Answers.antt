use Rattle.filter_engine.proofs.SettledNames.{settled_named}
use Rattle.filter_engine.proofs.laws.settled_rules_name_sets.Goals as goal

pub returns : goal.returns
returns c conf settled = settled_named conf settled
