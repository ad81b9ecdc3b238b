use Rattle.net_base.proofs.Order.{derived_addr_cmp}
use Rattle.nexthop_track.proofs.Tracked.{untracked}
use Rattle.nexthop_track.proofs.hops.NextHops.untrack.Goals as goal

pub returns-clause-tracked : goal.returns-clause-tracked
returns-clause-tracked c =
    let now = untracked _ derived_addr_cmp c.self.inside.tracked.keys c.remove.new.self.keys c.args.addr c.remove.ensures.updates.0 in
    λ q. rw (← c.self.view_is) (now q)
