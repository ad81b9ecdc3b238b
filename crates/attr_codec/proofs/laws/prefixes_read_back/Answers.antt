use Rattle.attr_codec.proofs.PrefixesBack.{prefixes_back}
use Rattle.attr_codec.proofs.laws.prefixes_read_back.Goals as goal

pub returns : goal.returns
returns c family prefixes each = prefixes_back family prefixes each
