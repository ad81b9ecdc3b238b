use Rattle.std.proofs.Common.{◌≡◌, ◌++◌, drop}
use Rattle.std.specs.List.{flat_map}
use Rattle.route_world.specs.Loc.{attrs_at}
use Rattle.route_world.proofs.counting.all_attrs.Given as goal

-- those so far, followed by those of the prefixes that are left, are all
abbrev pub invariant-loop-prefix : goal.invariant-loop-prefix
invariant-loop-prefix g l =
    l.all ++ flat_map (attrs_at l.world) (drop l.prefix-index l.prefix-items)
    ≡ l.initial.all ++ flat_map (attrs_at l.world) l.prefix-items
