-- What holds of a configuration that comes in items.
use Rattle.conf_tree.specs.declared.conf.Conf.{Conf}
use Rattle.conf_tree.specs.Readable.{IsReadable, IsWithinLimits}
use Rattle.conf_tree.specs.Settled.{IsSettled}

-- It has passed the checks, its values can be written, and it has no more of anything than a text may have.
pub record CanBeTakenUp (conf : Conf) : Type 0 where
  pub readable : IsReadable conf
  pub within : IsWithinLimits conf
  pub settled : IsSettled conf
