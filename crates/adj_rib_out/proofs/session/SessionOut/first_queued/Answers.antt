use Rattle.std.proofs.Common.{subst}
use Rattle.net_base.specs.PrefixSet.{IsLeast}
use Rattle.adj_rib_out.specs.Out.{is_queued}
use Rattle.adj_rib_out.proofs.session.SessionOut.first_queued.Goals as goal

pub returns : goal.returns
returns c = subst (λ out. IsLeast (is_queued out) c.first.result) c.self.view_is c.first.ensures
