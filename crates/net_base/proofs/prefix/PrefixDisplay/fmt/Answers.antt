use Rattle.net_base.proofs.PrefixText.{shown_prefix}
use Rattle.net_base.proofs.prefix.PrefixDisplay.fmt.Goals as goal

pub returns-clause-writes : goal.returns-clause-writes
returns-clause-writes g c = λ plain ok.
    rw (shown_prefix c.args.self.now c.addr.result c.addr.ensures) (c.write.ensures.writes plain ok)
