use Rattle.std.proofs.Common.{◌≡◌, drop, fold}
use Rattle.route_world.specs.Loc.{with_new}
use Rattle.route_world.proofs.counting.count_different.Given as goal

-- those that were seen so far, with those that are left, are those of all
abbrev pub invariant-loop-attrs : goal.invariant-loop-attrs
invariant-loop-attrs l = fold with_new l.seen (drop l.attrs-index l.all) ≡ fold with_new l.initial.seen l.all
