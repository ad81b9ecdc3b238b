use Rattle.std.proofs.Common.{◌≡◌, []}
use Rattle.std.specs.List.{list_any}
use Rattle.std.specs.Ordering.{eq_by_cmp}
use Rattle.std.specs.Vec.Iter.{into_iter_items}
use Rattle.conf_tree.specs.Checks.{double_after}
use Rattle.conf_check.proofs.doubles.first_double.Given as goal

abbrev pub invariant-loop-line : goal.invariant-loop-line
invariant-loop-line g l =
    ((q : _) → list_any (eq_by_cmp g.K.Ord.cmp q) l.earlier.keys ≡ list_any (λ e. eq_by_cmp g.K.Ord.cmp q e.1) l.yielded)
    × (double_after (eq_by_cmp g.K.Ord.cmp) l.yielded (into_iter_items l.line-iterator) ≡ double_after (eq_by_cmp g.K.Ord.cmp) [] l.fn.names.items)
