use Rattle.std.proofs.Common.{◌≡◌, ◌++◌, drop, filter_map}
use Rattle.parent_core.specs.KernelTables.{tables_of}
use Rattle.parent_core.proofs.kernel_tables.numbers_of.Given as goal

-- the numbers so far, followed by those of the RIBs that are left, are all
abbrev pub invariant-loop-rib : goal.invariant-loop-rib
invariant-loop-rib l = l.numbers ++ filter_map (λ rib. rib.table) (drop l.rib-index l.conf.ribs) ≡ tables_of l.conf
