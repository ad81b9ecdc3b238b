use Rattle.std.proofs.Common.{◌≡◌, drop, map}
use Rattle.std.specs.Prelude.{fold}
use Rattle.conf_tree.specs.Said.{said, prefix_set_of}
use Rattle.conf_tree.specs.Flat.{text_cmp, range_cmp, in_order, with_entry}
use Rattle.conf_check.specs.Lists.{prefix_sets_by_name}
use Rattle.conf_check.proofs.lists.prefix_sets_by_name.Given as goal

abbrev pub invariant-loop-line : goal.invariant-loop-line
invariant-loop-line l = fold (with_entry text_cmp) l.sets.entries (map (λ set. (set.0, in_order range_cmp set.1)) (said prefix_set_of (drop l.line-index l.lines))) ≡ prefix_sets_by_name l.lines
