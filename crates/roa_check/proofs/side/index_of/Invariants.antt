use Rattle.std.proofs.Common.{◌≡◌, map, take}
use Rattle.roa_check.specs.Table.{roa_slot}
use Rattle.roa_check.proofs.side.index_of.Given as goal

abbrev pub invariant-loop-roa : goal.invariant-loop-roa
invariant-loop-roa l = l.index ≡ map roa_slot (take l.roa-index l.roas)
