use Rattle.std.proofs.Common.{◌≡◌, length}
use Rattle.bgp_wire.specs.Hearing.{nothing, heard_in}
use Rattle.bgp_wire.proofs.hearing.hear.Given as goal

-- What was heard, with what is left, is what the whole field says.
abbrev pub invariant-loop-left : goal.invariant-loop-left
invariant-loop-left l = heard_in l.heard l.left ≡ heard_in nothing l.fn.optional

abbrev pub decreases-loop-left : goal.decreases-loop-left
decreases-loop-left l = length l.left
