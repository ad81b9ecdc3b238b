use Rattle.std.proofs.Common.{◌≡◌, ◌++◌, drop, map}
use Rattle.std.specs.Prelude.{flat_map}
use Rattle.conf_tree.specs.Flat.{placed_in}
use Rattle.conf_check.specs.Placed.{seen}
use Rattle.conf_check.proofs.placed.placed.Given as goal

abbrev pub invariant-loop-line : goal.invariant-loop-line
invariant-loop-line l = l.all.items ++ map seen (flat_map (λ s. placed_in s.statement) (drop l.line-index l.lines)) ≡ map seen (flat_map (λ s. placed_in s.statement) l.lines)
