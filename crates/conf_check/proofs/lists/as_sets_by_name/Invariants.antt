use Rattle.std.proofs.Common.{◌≡◌, drop, map}
use Rattle.std.specs.Prelude.{fold}
use Rattle.std.specs.Ordering.{nat_cmp}
use Rattle.conf_tree.specs.Said.{said, as_set_of}
use Rattle.conf_tree.specs.Flat.{text_cmp, in_order, with_entry}
use Rattle.conf_check.specs.Lists.{as_sets_by_name}
use Rattle.conf_check.proofs.lists.as_sets_by_name.Given as goal

abbrev pub invariant-loop-line : goal.invariant-loop-line
invariant-loop-line l = fold (with_entry text_cmp) l.sets.entries (map (λ set. (set.0, in_order nat_cmp set.1)) (said as_set_of (drop l.line-index l.lines))) ≡ as_sets_by_name l.lines
