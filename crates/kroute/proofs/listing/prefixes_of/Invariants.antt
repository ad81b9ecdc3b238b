use Rattle.std.specs.Slice.Iter.{iter_rest}
use Rattle.kroute.proofs.Steps.{Known}
use Rattle.kroute.proofs.listing.prefixes_of.Given as goal

-- the prefixes so far, with those of the rows that are left, are those of all rows
abbrev pub invariant-loop-prefix : goal.invariant-loop-prefix
invariant-loop-prefix l = Known l.known (iter_rest l.prefix-iterator) l.rows
