use Rattle.std.proofs.Common.{ℕ, ◌≤◌, ◌++◌, length}
use Rattle.std.specs.Prelude.{IfSome}
use Rattle.std.specs.List.{AllByRecursion}
use Rattle.std.specs.Vec.Iter.{into_iter_items}
use Rattle.attr_intern.specs.Table.{Table, IsOf, times}
use Rattle.adj_rib_out.specs.Out.{kept_of}
use Rattle.adj_rib_out.specs.Uses.{Moves}
use Rattle.adj_rib_out.specs.Packed.{message_in}
use Rattle.adj_rib_out.specs.Looks.{wanted_in}
use Rattle.adj_rib_out.proofs.Settling.{Settling}
use Rattle.adj_rib_out.proofs.building.settle.Given as goal

-- what is done so far, followed by what is left, is the whole; what is held is what the session keeps and what is left
abbrev pub invariant-loop-look : goal.invariant-loop-look
invariant-loop-look l =
    let left = into_iter_items l.look-iterator in
    Settling l.fn.looks l.fn.out l.out (message_in l.fn.packing) (message_in l.packing) left
    × Moves l.fn.table l.table (kept_of l.fn.out ++ wanted_in l.fn.looks) (kept_of l.out ++ wanted_in left)
    × ((table : Table) → AllByRecursion (IsOf table) (kept_of l.fn.out ++ wanted_in l.fn.looks) → AllByRecursion (IsOf table) (kept_of l.out ++ wanted_in left))
    × ((number : ℕ) → times number (kept_of l.out ++ wanted_in left) ≤ times number (kept_of l.fn.out ++ wanted_in l.fn.looks))
    × IfSome l.packing (λ packed. length left ≤ packed.room)
