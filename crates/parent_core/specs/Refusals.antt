-- How a fault of reading a text refuses a reload.
use Rattle.net_base.specs.declared.conf.ConfError.{ConfError}
use Rattle.net_base.specs.declared.conf.ConfError.TheVariants as errors
use Rattle.parent_core.specs.declared.fault.ReloadRefusal.{ReloadRefusal}
use Rattle.parent_core.specs.declared.fault.ReloadRefusal.TheVariants as refusals

abbrev pub refusal_of : ConfError → ReloadRefusal
refusal_of (errors.Fault fault) = refusals.Refused fault
refusal_of errors.NoMemory = refusals.NoMemory
