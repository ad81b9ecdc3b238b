use Rattle.std.proofs.Common.{◌≡◌, subst, sym, if◌then◌else◌}
use Rattle.std.specs.Ordering.{eq_by_cmp}
use Rattle.net_base.specs.declared.prefix.Prefix.{Prefix}
use Rattle.net_base.specs.Order.{prefix_cmp}
use Rattle.net_base.specs.PrefixSet.{is_in}
use Rattle.nexthop_track.specs.Hops.{Hops, with_route}
use Rattle.nexthop_track.specs.Changes.{answers_changed}
use Rattle.nexthop_track.proofs.hops.NextHops.kernel_route.Goals as goal

pub returns-clause-changes : goal.returns-clause-changes
returns-clause-changes c =
    let After : Hops → Type 0 = λ h. ((q : Prefix) → is_in h.routes q ≡ (if eq_by_cmp prefix_cmp q c.args.prefix then c.args.up else is_in c.args.self.now.routes q)) → c.in_ok-changes.changes ≡ answers_changed c.args.self.now h in
    subst After (sym c.in_ok-set_route.ensures.ok) (c.in_ok-changes.ensures (with_route c.args.up c.args.self.now.routes c.args.prefix)) c.in_ok-set_route.ensures.routes
