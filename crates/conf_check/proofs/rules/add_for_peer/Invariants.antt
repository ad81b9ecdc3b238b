use Rattle.std.proofs.Common.{◌≡◌, ◌++◌, drop, map}
use Rattle.conf_tree.specs.Flat.{rule_with}
use Rattle.conf_check.proofs.rules.add_for_peer.Given as goal

abbrev pub invariant-loop-list : goal.invariant-loop-list
invariant-loop-list l = l.rules ++ map (rule_with l.conf l.block l.peer) (drop l.list-index l.conditions) ≡ l.initial.rules ++ map (rule_with l.conf l.block l.peer) l.conditions
