use Rattle.std.proofs.Common.{◌≡◌, length}
use Rattle.bgp_wire.specs.Hearing.{offer_in}
use Rattle.bgp_wire.proofs.hearing.hear_capabilities.Given as goal

-- The offer, with what is left, is what the whole field says.
abbrev pub invariant-loop-left : goal.invariant-loop-left
invariant-loop-left l = offer_in l.offer l.left ≡ offer_in l.fn.before l.fn.field

abbrev pub decreases-loop-left : goal.decreases-loop-left
decreases-loop-left l = length l.left
