use Rattle.filter_engine.proofs.ItemsValid.{items_valid, prepends_valid}
use Rattle.filter_engine.proofs.VerdictValid.{passed_valid}
use Rattle.filter_engine.proofs.laws.valid_attributes_stay_valid.Goals as goal

pub returns-clause-items : goal.returns-clause-items
returns-clause-items c context attrs items valid = items_valid context attrs items valid

pub returns-clause-prepends : goal.returns-clause-prepends
returns-clause-prepends c asn times attrs valid = prepends_valid asn times attrs valid

pub returns-clause-rules : goal.returns-clause-rules
returns-clause-rules c conf rules context attrs told hop e valid = passed_valid conf rules context attrs told hop e valid
