use Rattle.std.proofs.Common.{◌≡◌, take}
use Rattle.update_codec.specs.Held.{with_group}
use Rattle.update_codec.proofs.holding.announce.Given as goal

abbrev pub invariant-loop-prefix : goal.invariant-loop-prefix
invariant-loop-prefix l = l.routes ≡ with_group l.fn.routes (l.attrs, take l.prefix-index l.prefixes)
