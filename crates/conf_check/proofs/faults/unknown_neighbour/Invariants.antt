use Rattle.std.proofs.Common.{◌≡◌, drop}
use Rattle.conf_tree.specs.Checks.{is_unknown_rib}
use Rattle.conf_check.specs.Faults.{line_where}
use Rattle.conf_check.proofs.faults.unknown_neighbour.Given as goal

abbrev pub invariant-loop-placed : goal.invariant-loop-placed
invariant-loop-placed l = line_where (λ n. is_unknown_rib l.conf n.settings.rib) (drop l.placed-index l.all) ≡ line_where (λ n. is_unknown_rib l.conf n.settings.rib) l.all
