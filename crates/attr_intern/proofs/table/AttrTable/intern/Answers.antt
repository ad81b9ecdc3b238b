use Rattle.attr_intern.proofs.Uses.{hands_new}
use Rattle.attr_intern.proofs.table.AttrTable.intern.Goals as goal

pub returns-in-None-clause-hands : goal.returns-in-None-clause-hands
returns-in-None-clause-hands c = hands_new c.args.self.now c.add.new.self c.in_ok-hashed.hashed c.add.result c.add.ensures.attrs c.add.ensures.free c.add.ensures.first
