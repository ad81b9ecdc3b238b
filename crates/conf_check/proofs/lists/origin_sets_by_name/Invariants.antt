use Rattle.std.proofs.Common.{◌≡◌, drop, map}
use Rattle.std.specs.Prelude.{fold}
use Rattle.conf_tree.specs.Said.{said, origin_set_of}
use Rattle.conf_tree.specs.Flat.{text_cmp, roa_cmp, in_order, with_entry}
use Rattle.conf_check.specs.Lists.{origin_sets_by_name}
use Rattle.conf_check.proofs.lists.origin_sets_by_name.Given as goal

abbrev pub invariant-loop-line : goal.invariant-loop-line
invariant-loop-line l = fold (with_entry text_cmp) l.sets.entries (map (λ set. (set.0, in_order roa_cmp set.1)) (said origin_set_of (drop l.line-index l.lines))) ≡ origin_sets_by_name l.lines
