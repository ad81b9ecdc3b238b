use Rattle.std.proofs.Common.{subst, ◌&&◌}
use Rattle.std.specs.Ordering.{is_lt}
use Rattle.net_base.specs.Order.{prefix_cmp}
use Rattle.net_base.specs.PrefixSet.{IsLeast}
use Rattle.adj_rib_out.specs.Out.{is_queued}
use Rattle.adj_rib_out.proofs.session.SessionOut.queued_after.Goals as goal

pub returns : goal.returns
returns c = subst (λ out. IsLeast (λ p. is_queued out p && is_lt (prefix_cmp c.args.after p)) c.first_after.result) c.self.view_is c.first_after.ensures
