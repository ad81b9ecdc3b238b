use Rattle.update_codec.proofs.TypesAscend.{types_ascend}
use Rattle.update_codec.proofs.laws.written_types_ascend.Goals as goal

pub returns : goal.returns
returns c enc attrs valid = types_ascend enc attrs valid
