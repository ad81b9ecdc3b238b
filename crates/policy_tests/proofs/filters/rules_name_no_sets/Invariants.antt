use Rattle.std.proofs.Common.{take}
use Rattle.policy_tests.specs.EmptySets.{empty_sets}
use Rattle.filter_engine.specs.Named.{AreNamed}
use Rattle.policy_tests.proofs.filters.rules_name_no_sets.Given as goal

abbrev pub invariant-loop-rule : goal.invariant-loop-rule
invariant-loop-rule l = AreNamed empty_sets (take l.rule-index l.rules)
