use Rattle.std.proofs.Common.{◌≡◌, ◌++◌, map}
use Rattle.std.specs.List.{AllByRecursion}
use Rattle.std.specs.Slice.Iter.{iter_rest}
use Rattle.adj_rib_out.specs.Message.{FitsAlone}
use Rattle.rde_tables.specs.Wants.{look_of}
use Rattle.rde_view.specs.View.{facts_of}
use Rattle.rde_core.proofs.building.wants.Given as goal

-- The prefixes so far, followed by those that are left, are all; and each so far fits alone.
abbrev pub invariant-loop-prefix : goal.invariant-loop-prefix
invariant-loop-prefix g l = record {
  prefixes : map (λ want. want.prefix) l.wants ++ iter_rest l.prefix-iterator ≡ iter_rest l.initial.prefix-iterator;
  alone : AllByRecursion (FitsAlone (facts_of l.view.conf.asn l.live).encoding) (map look_of l.wants);
}
