use Rattle.std.proofs.Common.{◌≡◌, ◌++◌}
use Rattle.std.specs.List.{flat_map}
use Rattle.adj_rib_out.specs.Rows.{told_prefix}
use Rattle.adj_rib_out.proofs.rows.Rows.told_prefixes.Given as goal

-- the prefixes so far, followed by those of the rows that are left, are all
abbrev pub invariant-loop-prefix : goal.invariant-loop-prefix
invariant-loop-prefix l =
    l.prefixes ++ flat_map (λ entry. told_prefix entry.0 entry.1) l.prefix-iterator ≡ flat_map (λ entry. told_prefix entry.0 entry.1) l.initial.prefix-iterator
