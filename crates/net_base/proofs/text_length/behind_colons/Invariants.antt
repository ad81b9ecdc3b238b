use Rattle.std.proofs.Common.{◌≡◌, ◌*◌, ◌≤◌, ◌++◌, length, flat_map, codes, take}
use Rattle.std.specs.Net.Text.{hex}
use Rattle.net_base.proofs.text_length.behind_colons.Given as goal

-- the length of the groups so far
abbrev pub invariant-loop-group : goal.invariant-loop-group
invariant-loop-group l =
    (l.length ≡ length (flat_map (λ t. codes ":" ++ hex t) (take l.group-index l.groups)))
    × (l.length ≤ 5 * l.group-index)
