use Rattle.std.proofs.Common.{◌≡◌, ◌++◌, drop, map}
use Rattle.conf_check.proofs.doubles.addresses.Given as goal

abbrev pub invariant-loop-placed : goal.invariant-loop-placed
invariant-loop-placed l = l.list.items ++ map (λ n. (n.line, n.address)) (drop l.placed-index l.all) ≡ map (λ n. (n.line, n.address)) l.all
