use Rattle.std.proofs.Common.{◌≡◌, ◌++◌, drop}
use Rattle.std.specs.Prelude.{flat_map}
use Rattle.conf_tree.specs.Flat.{followed_by}
use Rattle.conf_check.proofs.choices.chosen.Given as goal

abbrev pub invariant-loop-front : goal.invariant-loop-front
invariant-loop-front g l = l.all.items ++ flat_map (followed_by l.list) (drop l.front-index l.fronts) ≡ flat_map (followed_by l.list) l.fronts
