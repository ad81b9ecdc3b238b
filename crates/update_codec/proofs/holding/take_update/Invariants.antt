use Rattle.std.proofs.Common.{◌≡◌, fold, take}
use Rattle.attr_model.specs.Routes.{without_route}
use Rattle.update_codec.specs.Held.{with_group}
use Rattle.update_codec.proofs.holding.take_update.Given as goal

abbrev pub invariant-loop-attrs : goal.invariant-loop-attrs
invariant-loop-attrs l = l.routes ≡ fold with_group (fold without_route l.fn.routes l.update.withdrawn) (take l.attrs-index l.update.announced)
