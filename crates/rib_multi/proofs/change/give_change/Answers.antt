use Rattle.std.proofs.Common.{[]}
use Rattle.rib_multi.specs.Uses.{refs_of_one}
use Rattle.rib_multi.proofs.Moved.{moves_then}
use Rattle.rib_multi.proofs.change.give_change.Goals as goal

pub returns : goal.returns
returns c = moves_then c.args.table.now c.give_if.new.table c.give_if-2.new.table (refs_of_one c.args.change.old) [] (refs_of_one c.args.change.new) c.give_if.ensures c.give_if-2.ensures
