use Rattle.attr_codec.proofs.ReadValid.{field_valid}
use Rattle.attr_codec.proofs.laws.read_attributes_are_valid.Goals as goal

pub returns : goal.returns
returns c enc field are = field_valid enc field are
