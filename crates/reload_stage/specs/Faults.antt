-- How a fault of reading a text is told of a stage.
use Rattle.net_base.specs.declared.conf.ConfError.{ConfError}
use Rattle.net_base.specs.declared.conf.ConfError.TheVariants as errors
use Rattle.reload_stage.specs.declared.fault.StageFault.{StageFault}
use Rattle.reload_stage.specs.declared.fault.StageFault.TheVariants as faults

abbrev pub fault_of : ConfError → StageFault
fault_of (errors.Fault fault) = faults.BadText fault
fault_of errors.NoMemory = faults.NoMemory
