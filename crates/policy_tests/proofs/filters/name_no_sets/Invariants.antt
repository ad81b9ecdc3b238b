use Rattle.std.proofs.Common.{take}
use Rattle.std.specs.List.{All}
use Rattle.policy_tests.specs.EmptySets.{empty_sets}
use Rattle.filter_engine.specs.Named.{IsNamed}
use Rattle.policy_tests.proofs.filters.name_no_sets.Given as goal

abbrev pub invariant-loop-condition : goal.invariant-loop-condition
invariant-loop-condition l = All (IsNamed empty_sets) (take l.condition-index l.conditions)
