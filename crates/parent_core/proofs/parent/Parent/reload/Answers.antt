use Rattle.conf_laws.proofs.Short.{short}
use Rattle.conf_laws.proofs.ReadBack.{said_again}
use Rattle.parent_core.proofs.parent.Parent.reload.Goals as goal

pub accept-requires-clause-said : goal.accept-requires-clause-said
accept-requires-clause-said c = record {
  short = short c.args.text.now c.in_ok-conf.conf c.in_ok-conf.ensures;
  reads_back = said_again c.args.text.now c.in_ok-conf.conf c.in_ok-conf.ensures;
}
