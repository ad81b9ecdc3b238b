use Rattle.std.proofs.Common.{◌≡◌, ◌++◌, drop, map}
use Rattle.std.specs.Prelude.{flat_map}
use Rattle.conf_tree.specs.Flat.{rule_with}
use Rattle.conf_check.proofs.rules.add_rules.Given as goal

abbrev pub invariant-loop-peer : goal.invariant-loop-peer
invariant-loop-peer l = l.rules ++ flat_map (λ peer. map (rule_with l.conf l.block peer) l.conditions.items) (drop l.peer-index l.block.peers) ≡ l.initial.rules ++ flat_map (λ peer. map (rule_with l.conf l.block peer) l.conditions.items) l.block.peers
