use Rattle.std.proofs.Common.{◌≡◌, drop}
use Rattle.net_base.specs.declared.conf.ConfKind.TheVariants.{FamilyMismatch}
use Rattle.conf_check.specs.Faults.{fault_where, is_mismatch_in}
use Rattle.conf_check.proofs.faults.family_mismatch.Given as goal

abbrev pub invariant-loop-placed : goal.invariant-loop-placed
invariant-loop-placed l = fault_where FamilyMismatch (λ n. is_mismatch_in n n.settings.plain.local_address) (drop l.placed-index l.all) ≡ fault_where FamilyMismatch (λ n. is_mismatch_in n n.settings.plain.local_address) l.all
