use Rattle.update_codec.proofs.HeldValid.{held_valid, told_valid}
use Rattle.update_codec.proofs.laws.held_attributes_are_valid.Goals as goal

pub returns-clause-held : goal.returns-clause-held
returns-clause-held c updates are = held_valid updates are

pub returns-clause-told : goal.returns-clause-told
returns-clause-told c enc bytes are = told_valid enc bytes are
