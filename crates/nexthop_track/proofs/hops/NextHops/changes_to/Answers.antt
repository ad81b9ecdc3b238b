use Rattle.std.proofs.Common.{◌≡◌, true, false, Some, None, sym, ap, ◌∙◌, if◌then◌else◌}
use Rattle.nexthop_track.specs.declared.hops.HopChange.{HopChange}
use Rattle.nexthop_track.specs.Answers.{differ}
use Rattle.nexthop_track.specs.Hops.{Hops, is_valid}
use Rattle.nexthop_track.specs.Changes.{answer_changed, answer_of}
use Rattle.nexthop_track.proofs.Routes.{valid_is}
use Rattle.nexthop_track.proofs.Steps.{passed_over, added}
use Rattle.nexthop_track.proofs.hops.NextHops.changes_to.Goals as goal

pub loop-addr-preserved-in-Continue-1 : goal.loop-addr-preserved-in-Continue-1
loop-addr-preserved-in-Continue-1 c =
    let a = c.in-Some.addr.now in
    let new : Hops = record c.args.self.now { qualify_default = c.args.on } in
    let change : HopChange = record { addr = a; valid = c.is_reached-valid.result } in
    let reached : c.is_reached-valid.result ≡ is_valid new a = c.is_reached-valid.ensures ∙ sym (valid_is (record { routes = c.self.inside.routes; qualify_default = c.args.on; tracked = c.self.inside.tracked.keys }) a) ∙ ap (λ (h : Hops). is_valid (record h { qualify_default = c.args.on }) a) c.self.view_is in
    let differs : differ (is_valid c.args.self.now a) (is_valid new a) ≡ true = (λ i. differ (sym c.is_valid.ensures i) (sym reached i)) ∙ sym c.differ.ensures ∙ c.if-differ.true in
    let gives : answer_changed c.args.self.now new a ≡ Some change = ap (λ b. if b then Some (answer_of new a) else None) differs ∙ (λ i. Some (record { addr = a; valid = sym reached i })) in
    added (answer_changed c.args.self.now new) c.loop-addr.changes a c.loop-addr.addr-iterator c.next.new.self _ c.loop-addr.invariant c.in-Some.ensures.steps change gives c.push.new.self c.in_ok-push.ensures.ok

pub loop-addr-preserved : goal.loop-addr-preserved
loop-addr-preserved c =
    let a = c.in-Some.addr.now in
    let new : Hops = record c.args.self.now { qualify_default = c.args.on } in
    let reached : c.is_reached-valid.result ≡ is_valid new a = c.is_reached-valid.ensures ∙ sym (valid_is (record { routes = c.self.inside.routes; qualify_default = c.args.on; tracked = c.self.inside.tracked.keys }) a) ∙ ap (λ (h : Hops). is_valid (record h { qualify_default = c.args.on }) a) c.self.view_is in
    let same : differ (is_valid c.args.self.now a) (is_valid new a) ≡ false = (λ i. differ (sym c.is_valid.ensures i) (sym reached i)) ∙ sym c.differ.ensures ∙ c.if-differ.false in
    passed_over (answer_changed c.args.self.now new) c.loop-addr.changes a c.loop-addr.addr-iterator c.next.new.self _ c.loop-addr.invariant c.in-Some.ensures.steps
    (ap (λ b. if b then Some (answer_of new a) else None) same)
