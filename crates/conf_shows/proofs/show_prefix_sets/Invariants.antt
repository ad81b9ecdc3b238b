use Rattle.std.proofs.Common.{◌≡◌, ◌++◌}
use Rattle.std.specs.Slice.Iter.{iter_rest}
use Rattle.conf_shows.specs.Shown.{prefix_set_rows}
use Rattle.conf_shows.proofs.show_prefix_sets.Given as goal

-- the rows so far, followed by those of the sets that are left, are all
abbrev pub invariant-loop-set : goal.invariant-loop-set
invariant-loop-set l = l.lines ++ prefix_set_rows (iter_rest l.set-iterator) ≡ l.fn.lines ++ prefix_set_rows l.fn.sets
