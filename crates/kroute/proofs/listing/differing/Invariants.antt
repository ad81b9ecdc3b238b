use Rattle.std.proofs.Common.{◌≡◌, ◌&&◌, ◌||◌, is_some}
use Rattle.std.specs.Slice.Iter.{iter_rest}
use Rattle.net_base.specs.declared.prefix.Prefix.{Prefix}
use Rattle.net_base.specs.PrefixSet.{is_in}
use Rattle.kroute.specs.Phases.{row_at, differ}
use Rattle.kroute.specs.Rows.{IsByPrefix}
use Rattle.kroute.proofs.Steps.{Differing}
use Rattle.kroute.proofs.listing.differing.Given as goal

abbrev pub invariant-loop-prefix : goal.invariant-loop-prefix
invariant-loop-prefix l = Differing l.job l.wanted.entries (iter_rest l.prefix-iterator) l.rows
