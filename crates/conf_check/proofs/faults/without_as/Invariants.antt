use Rattle.std.proofs.Common.{◌≡◌, drop}
use Rattle.std.specs.Prelude.{is_none}
use Rattle.net_base.specs.declared.conf.ConfKind.TheVariants.{NoAs}
use Rattle.conf_check.specs.Faults.{fault_where}
use Rattle.conf_check.proofs.faults.without_as.Given as goal

abbrev pub invariant-loop-placed : goal.invariant-loop-placed
invariant-loop-placed l = fault_where NoAs (λ n. is_none n.settings.plain.remote_as) (drop l.placed-index l.all) ≡ fault_where NoAs (λ n. is_none n.settings.plain.remote_as) l.all
