use Rattle.std.proofs.Common.{◌≡◌, ◌++◌, drop}
use Rattle.std.specs.Prelude.{flat_map}
use Rattle.conf_tree.specs.Flat.{choices}
use Rattle.conf_check.proofs.conditions.all_choices.Given as goal

abbrev pub invariant-loop-lists : goal.invariant-loop-lists
invariant-loop-lists l = l.all.items ++ flat_map choices (drop l.lists-index l.apart) ≡ flat_map choices l.apart
