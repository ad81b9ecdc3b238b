use Rattle.std.proofs.Common.{◌≡◌, length}
use Rattle.bgp_wire.specs.Message.{messages}
use Rattle.update_codec.specs.Held.{told_from, told}
use Rattle.update_codec.proofs.holding.told.Given as goal

-- what the bytes tell is what those left add to the routes so far
abbrev pub invariant-loop-kind : goal.invariant-loop-kind
invariant-loop-kind l = told_from l.enc l.routes (messages l.left).whole ≡ told l.enc l.bytes

abbrev pub decreases-loop-kind : goal.decreases-loop-kind
decreases-loop-kind l = length l.left
