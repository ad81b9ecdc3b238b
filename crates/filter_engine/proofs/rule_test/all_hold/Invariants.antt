use Rattle.std.proofs.Common.{◌≡◌, drop}
use Rattle.std.specs.List.{list_all}
use Rattle.filter_engine.specs.Asked.{AreRight}
use Rattle.filter_engine.specs.Conditions.{condition_holds}
use Rattle.filter_engine.proofs.rule_test.all_hold.Given as goal

abbrev pub invariant-loop-condition : goal.invariant-loop-condition
invariant-loop-condition g l = record {
  rest : list_all (condition_holds (g.M.Members.conf_of l.sets) l.context l.origin l.attrs l.hop) (drop l.condition-index l.conditions)
      ≡ list_all (condition_holds (g.M.Members.conf_of l.sets) l.context l.origin l.attrs l.hop) l.conditions;
  right : AreRight (g.M.Members.conf_of l.sets) l.context l.origin l.asked;
}
