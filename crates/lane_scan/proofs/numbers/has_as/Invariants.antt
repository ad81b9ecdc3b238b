use Rattle.std.proofs.Common.{◌≡◌, ◌==◌, length}
use Rattle.std.specs.List.{list_any}
use Rattle.lane_scan.proofs.numbers.has_as.Given as goal

-- what is looked for stands in the rest exactly where it stands in the list
abbrev pub invariant-loop-left : goal.invariant-loop-left
invariant-loop-left l = list_any (λ number. number == l.asn) l.left ≡ list_any (λ number. number == l.asn) l.list

abbrev pub decreases-loop-left : goal.decreases-loop-left
decreases-loop-left l = length l.left
