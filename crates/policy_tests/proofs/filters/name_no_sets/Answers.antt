use Rattle.std.proofs.Common.{sym, subst}
use Rattle.std.proofs.lemmas.List.Elements.{All-more, All-same}
use Rattle.std.proofs.lemmas.List.{take_all}
use Rattle.policy_tests.specs.EmptySets.{empty_sets}
use Rattle.filter_engine.specs.Named.{IsNamed}
use Rattle.policy_tests.proofs.filters.name_no_sets.Goals as goal

pub loop-condition-preserved : goal.loop-condition-preserved
loop-condition-preserved c =
    All-more (IsNamed empty_sets) c.args.conditions.now c.loop-condition.condition-index c.condition-item.result c.loop-condition-test.true c.loop-condition.invariant (subst (IsNamed empty_sets) c.condition-item.is (c.names_no_set.ensures c.if-not-names_no_set.false))

pub returns : goal.returns
returns c is_true =
    All-same (IsNamed empty_sets) _ _ (sym (take_all c.loop-condition.condition-index c.args.conditions.now c.loop-condition-test.false)) c.loop-condition.invariant
