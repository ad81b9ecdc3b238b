use Rattle.std.proofs.Common.{◌≡◌, map}
use Rattle.std.specs.Prelude.{fold}
use Rattle.std.specs.Vec.Iter.{into_iter_items}
use Rattle.net_base.specs.Order.{addr_cmp}
use Rattle.conf_tree.specs.Flat.{with_entry}
use Rattle.conf_check.specs.Neighbours.{neighbour_with, neighbours_by_address}
use Rattle.conf_check.proofs.neighbours.neighbours_by_address.Given as goal

abbrev pub invariant-loop-placed : goal.invariant-loop-placed
invariant-loop-placed l = fold (with_entry addr_cmp) l.by_address.entries (map (λ n. (n.address, neighbour_with l.conf n)) (into_iter_items l.placed-iterator)) ≡ neighbours_by_address l.conf l.fn.all.items
