use Rattle.std.proofs.Common.{◌≡◌, not, ◌&&◌, ap, subst, sym, ◌∙◌}
use Rattle.std.specs.BTreeMap.Range.{range_contains}
use Rattle.std.specs.List.{filter, filter_map}
use Rattle.std.specs.declared.cmp.Ordering.{Ordering}
use Rattle.std.specs.declared.ops.Bound.TheVariants.{Included}
use Rattle.net_base.specs.declared.addr.Addr.{Addr}
use Rattle.net_base.specs.Bits.{prefix_addr}
use Rattle.net_base.specs.Order.{addr_cmp}
use Rattle.net_base.specs.Prefix.{covers}
use Rattle.net_base.proofs.Order.{derived_addr_cmp}
use Rattle.nexthop_track.specs.Hops.{Hops, host_of}
use Rattle.nexthop_track.specs.Changes.{answer_besides, answers_below}
use Rattle.nexthop_track.proofs.Blocks.{below_is}
use Rattle.nexthop_track.proofs.Steps.{all_done}
use Rattle.nexthop_track.proofs.hops.NextHops.changes_below.Goals as goal

pub returns : goal.returns
returns c =
    let p = c.args.prefix in
    let hops : Hops = record { routes = c.self.inside.routes; qualify_default = c.self.inside.qualify_default; tracked = c.self.inside.tracked.keys } in
    let Between : (Addr → Addr → Ordering) → Type 0 = λ r. c.range-addr-items.result ≡ filter (range_contains r (Included c.addr.result) (Included c.last_addr.result)) hops.tracked in
    let between : Between addr_cmp = subst Between derived_addr_cmp (c.range-addr-items.ensures.between tt) in
    let from_first : c.range-addr-items.result ≡ filter (range_contains addr_cmp (Included (prefix_addr p)) (Included c.last_addr.result)) hops.tracked = between ∙ ap (λ a. filter (range_contains addr_cmp (Included a) (Included c.last_addr.result)) hops.tracked) c.addr.ensures in
    let below : c.range-addr-items.result ≡ filter (λ a. covers p (host_of a)) hops.tracked = from_first ∙ ap (λ f. filter f hops.tracked) (λ i a. below_is p c.last_addr.result a c.last_addr.ensures.family c.last_addr.ensures.bits i) in
    let done = all_done (answer_besides hops p c.args.valid) c.loop-addr.changes c.loop-addr.addr-iterator _ c.loop-addr.invariant c.in-None.ensures.steps.0 in
    let start : c.into_iter-addr-iterator.result ≡ c.range-addr-items.result = c.into_iter-addr-iterator.ensures.into_iter_gives in
    done ∙ ap (filter_map (answer_besides hops p c.args.valid)) (start ∙ below) ∙ ap (λ h. answers_below h p c.args.valid) c.self.view_is
