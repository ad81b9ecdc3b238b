use Rattle.attr_codec.proofs.FieldSplits.{cut_spells, only_cut}
use Rattle.attr_codec.proofs.laws.attributes_split.Goals as goal

pub returns-clause-there : goal.returns-clause-there
returns-clause-there c field are = cut_spells field are

pub returns-clause-only : goal.returns-clause-only
returns-clause-only c field attributes spells = only_cut field attributes spells
