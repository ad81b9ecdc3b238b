use Rattle.filter_engine.proofs.BySets.{no_rules, same_verdict}
use Rattle.filter_engine.proofs.laws.verdict_goes_by_sets.Goals as goal

pub returns-clause-sets : goal.returns-clause-sets
returns-clause-sets c one other rules context attrs prefixes numbers origins roas = same_verdict one other prefixes numbers origins roas rules context attrs

pub returns-clause-none : goal.returns-clause-none
returns-clause-none c conf context attrs = no_rules conf context attrs
