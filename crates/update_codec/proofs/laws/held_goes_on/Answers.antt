use Rattle.update_codec.proofs.Going.{held_more, told_more, told_message}
use Rattle.update_codec.proofs.laws.held_goes_on.Goals as goal

pub returns-clause-held : goal.returns-clause-held
returns-clause-held c updates update = held_more updates update

pub returns-clause-told : goal.returns-clause-told
returns-clause-told c enc bytes more are none = told_more enc bytes more are none

pub returns-clause-message : goal.returns-clause-message
returns-clause-message c enc bytes message are none end is = told_message enc bytes message are none end is
