use Rattle.std.proofs.Common.{◌≡◌, drop}
use Rattle.std.specs.Prelude.{fold, flat_map}
use Rattle.std.specs.BTreeSet.{insert_key}
use Rattle.conf_tree.specs.Said.{roas_of}
use Rattle.conf_tree.specs.Flat.{roa_cmp, roas_said}
use Rattle.conf_check.proofs.ordered.roas.Given as goal

abbrev pub invariant-loop-line : goal.invariant-loop-line
invariant-loop-line l = fold (insert_key roa_cmp) l.ordered.keys (flat_map (λ s. roas_of s.statement) (drop l.line-index l.lines)) ≡ roas_said l.lines
