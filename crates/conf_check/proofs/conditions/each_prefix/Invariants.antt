use Rattle.std.proofs.Common.{◌≡◌, ◌++◌, ◌∷◌, [], drop, map}
use Rattle.conf_tree.specs.declared.rule.Condition.TheVariants as condition
use Rattle.conf_check.proofs.conditions.each_prefix.Given as goal

abbrev pub invariant-loop-entry : goal.invariant-loop-entry
invariant-loop-entry l = l.all ++ map (λ entry. condition.Prefix entry ∷ []) (drop l.entry-index l.entries) ≡ map (λ entry. condition.Prefix entry ∷ []) l.entries
