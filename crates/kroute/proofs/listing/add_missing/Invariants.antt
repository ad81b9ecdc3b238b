use Rattle.std.proofs.Common.{◌≡◌, ◌&&◌, ◌||◌, not, is_some}
use Rattle.net_base.specs.declared.prefix.Prefix.{Prefix}
use Rattle.net_base.specs.PrefixSet.{is_in}
use Rattle.kroute.specs.Phases.{row_at}
use Rattle.kroute.specs.Rows.{IsInOrder}
use Rattle.kroute.proofs.listing.add_missing.Given as goal

-- the prefixes so far, with those that the rows left add, are the same all along, and they stay in order
abbrev pub invariant-loop-prefix : goal.invariant-loop-prefix
invariant-loop-prefix l = ((q : Prefix) → (is_in l.job q || (is_some (row_at l.prefix-iterator q) && not (is_in l.known q)))
    ≡ (is_in l.initial.job q || (is_some (row_at l.initial.prefix-iterator q) && not (is_in l.known q))))
    × (IsInOrder l.initial.job → IsInOrder l.job)
