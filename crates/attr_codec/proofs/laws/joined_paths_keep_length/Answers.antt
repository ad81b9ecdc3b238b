use Rattle.attr_codec.proofs.Joined.{joined_length}
use Rattle.attr_codec.proofs.laws.joined_paths_keep_length.Goals as goal

pub returns : goal.returns
returns c path as4_path = joined_length path as4_path
