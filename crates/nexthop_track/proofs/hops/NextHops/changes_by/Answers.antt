use Rattle.std.proofs.Common.{◌≡◌, Bool, true, false, not, ◌||◌, nat_lt, List, Result, IfOk, refl, sym, ap, ◌∙◌, if◌then◌else◌}
use Rattle.std.specs.Ordering.{eq_by_cmp}
use Rattle.net_base.specs.declared.prefix.Prefix.{Prefix}
use Rattle.net_base.specs.Order.{prefix_cmp}
use Rattle.net_base.specs.PrefixSet.{is_in}
use Rattle.nexthop_track.specs.Answers.{differ}
use Rattle.nexthop_track.specs.Hops.{Hops}
use Rattle.nexthop_track.specs.Changes.{answers_below, answers_changed}
use Rattle.nexthop_track.proofs.Routes.{IsSet, unqualified, as_before, below_changes}
use Rattle.nexthop_track.proofs.Steps.{if_ok_map}
use Rattle.nexthop_track.proofs.hops.NextHops.changes_by.Goals as goal

alike : (a b : Bool) → differ a b ≡ false → a ≡ b
alike true true h = refl
alike true false h = h
alike false true h = sym h
alike false false h = refl

unlike : (a b : Bool) → differ a b ≡ true → a ≡ not b
unlike true true h = sym h
unlike true false h = refl
unlike false true h = refl
unlike false false h = h

pub returns-then-differ : goal.returns-then-differ
returns-then-differ c =
    let there : is_in c.args.self.now.routes c.args.prefix ≡ not c.args.up =
    ap (λ (h : Hops). is_in h.routes c.args.prefix) (sym c.self.view_is) ∙ sym c.has.ensures.value ∙ unlike c.has.result c.args.up (sym c.differ.ensures ∙ c.if-differ.true) in
    let long : (c.args.self.now.qualify_default || nat_lt 0 c.args.prefix.len) ≡ true = sym c.qualifies.ensures ∙ c.if-qualifies.true in
    if_ok_map c.changes_below.result (λ changes is routes set. is ∙ below_changes c.args.self.now c.args.prefix c.args.up routes set long there) c.changes_below.ensures

pub returns-else-differ : goal.returns-else-differ
returns-else-differ c =
    let there : is_in c.args.self.now.routes c.args.prefix ≡ c.args.up =
    ap (λ (h : Hops). is_in h.routes c.args.prefix) (sym c.self.view_is) ∙ sym c.has.ensures.value ∙ alike c.has.result c.args.up (sym c.differ.ensures ∙ c.if-differ.false) in
    λ routes set. c.new.ensures ∙ as_before c.args.self.now c.args.prefix c.args.up routes set there

pub returns-else-qualifies : goal.returns-else-qualifies
returns-else-qualifies c =
    let short : (c.args.self.now.qualify_default || nat_lt 0 c.args.prefix.len) ≡ false = sym c.qualifies.ensures ∙ c.if-qualifies.false in
    λ routes set. c.new-else-qualifies.ensures ∙ unqualified c.args.self.now c.args.prefix c.args.up routes set short
