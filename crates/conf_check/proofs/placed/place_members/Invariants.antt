use Rattle.std.proofs.Common.{◌≡◌, ◌++◌, drop, map, Some}
use Rattle.conf_check.specs.Placed.{placed_with}
use Rattle.conf_check.proofs.placed.place_members.Given as goal

abbrev pub invariant-loop-block : goal.invariant-loop-block
invariant-loop-block l = l.all.items ++ map (placed_with (Some l.group.name) l.shared) (drop l.block-index l.group.neighbours) ≡ l.initial.all.items ++ map (placed_with (Some l.group.name) l.shared) l.group.neighbours
