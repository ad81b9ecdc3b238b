use Rattle.update_codec.proofs.FamiliesRead.{says_families, told_families}
use Rattle.update_codec.proofs.laws.held_hops_have_the_family.Goals as goal

pub returns-clause-update : goal.returns-clause-update
returns-clause-update c enc body = says_families enc body

pub returns-clause-told : goal.returns-clause-told
returns-clause-told c enc bytes = told_families enc bytes
