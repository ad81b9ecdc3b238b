use Rattle.std.proofs.Common.{length}
use Rattle.conf_parser.proofs.rules.+factors.Given as goal

abbrev pub decreases-factors : goal.decreases-factors
decreases-factors l = length l.conditions.now
