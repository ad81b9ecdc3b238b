use Rattle.std.specs.List.{AllByRecursion}
use Rattle.std.specs.Vec.Iter.{into_iter_items}
use Rattle.attr_intern.specs.Table.{IsOf}
use Rattle.adj_rib_out.specs.Uses.{Moves}
use Rattle.adj_rib_out.specs.Looks.{wanted_in}
use Rattle.adj_rib_out.proofs.building.give_back_all.Given as goal

-- what is held is what is left
abbrev pub invariant-loop-look : goal.invariant-loop-look
invariant-loop-look l =
    let left = into_iter_items l.look-iterator in
    Moves l.fn.table l.table (wanted_in l.fn.looks) (wanted_in left) × AllByRecursion (IsOf l.fn.table) (wanted_in left)
