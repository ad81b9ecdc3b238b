use Rattle.std.proofs.Common.{◌≡◌, drop}
use Rattle.std.specs.Prelude.{fold}
use Rattle.conf_tree.specs.Flat.{chosen, choices}
use Rattle.conf_check.proofs.choices.choices.Given as goal

abbrev pub invariant-loop-list : goal.invariant-loop-list
invariant-loop-list g l = fold chosen l.fronts.items (drop l.list-index l.lists) ≡ choices l.lists
