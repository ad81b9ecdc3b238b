use Rattle.std.proofs.Common.{◌≡◌, take}
use Rattle.update_codec.specs.Held.{held}
use Rattle.update_codec.proofs.holding.held.Given as goal

abbrev pub invariant-loop-update : goal.invariant-loop-update
invariant-loop-update l = l.routes ≡ held (take l.update-index l.updates)
