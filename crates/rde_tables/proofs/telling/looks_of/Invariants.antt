use Rattle.std.proofs.Common.{◌≡◌, ◌++◌, [], map}
use Rattle.adj_rib_out.specs.Looks.{wanted_in}
use Rattle.rde_tables.specs.Uses.{Keeps}
use Rattle.rde_tables.specs.Wants.{bare, look_of}
use Rattle.rde_tables.proofs.telling.looks_of.Given as goal

-- The looks so far, followed by what is left, are all, and have a use each.
abbrev pub invariant-loop-want : goal.invariant-loop-want
invariant-loop-want l = record {
  keeps : Keeps l.fn.table l.table [] (wanted_in l.looks);
  like : map bare l.looks ++ map look_of l.want-iterator.rest.items ≡ map look_of l.fn.wants;
}
