use Rattle.update_codec.proofs.LastWord.{held_ascends, held_last}
use Rattle.update_codec.proofs.laws.held_by_last_word.Goals as goal

pub returns-clause-ascend : goal.returns-clause-ascend
returns-clause-ascend c updates = held_ascends updates

pub returns-clause-route : goal.returns-clause-route
returns-clause-route c updates prefix = held_last updates prefix
