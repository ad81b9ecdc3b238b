use Rattle.update_codec.proofs.ReadValid.{says_valid}
use Rattle.update_codec.proofs.laws.update_attributes_are_valid.Goals as goal

pub returns : goal.returns
returns c enc body are = says_valid enc body are
