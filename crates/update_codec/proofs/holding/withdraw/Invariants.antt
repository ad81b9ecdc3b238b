use Rattle.std.proofs.Common.{◌≡◌, fold, take}
use Rattle.attr_model.specs.Routes.{without_route}
use Rattle.update_codec.proofs.holding.withdraw.Given as goal

abbrev pub invariant-loop-prefix : goal.invariant-loop-prefix
invariant-loop-prefix l = l.routes ≡ fold without_route l.fn.routes (take l.prefix-index l.prefixes)
