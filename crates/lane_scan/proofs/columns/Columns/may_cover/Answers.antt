use Rattle.std.proofs.Common.{◌∙◌, ◌/◌, ◌==◌, ◌||◌, ap, sym, length, take, drop, arith}
use Rattle.std.specs.Prelude.{nat_lt}
use Rattle.std.specs.List.{list_any}
use Rattle.lane_scan.specs.Covering.{covers_at}
use Rattle.lane_scan.proofs.Slots.{length-slots}
use Rattle.lane_scan.proofs.Fronts.{covered_in_group}
use Rattle.lane_scan.proofs.columns.Columns.may_cover.Goals as goal

pub may_have-requires-clause-highs : goal.may_have-requires-clause-highs
may_have-requires-clause-highs c =
    let columns = c.self.inside in
    let long = ap length (sym c.self.view_is) ∙ length-slots columns.high.items columns.low.items columns.len.items columns.low_too columns.len_too in
    omega (arith, long)

pub may_have-requires-clause-lens : goal.may_have-requires-clause-lens
may_have-requires-clause-lens c =
    let columns = c.self.inside in
    let long = ap length (sym c.self.view_is) ∙ length-slots columns.high.items columns.low.items columns.len.items columns.low_too columns.len_too in
    omega (arith, long)

pub returns : goal.returns
returns c k from to covers =
    let columns = c.self.inside in
    let long = ap length (sym c.self.view_is) ∙ length-slots columns.high.items columns.low.items columns.len.items columns.low_too columns.len_too in
    (c.may_have.ensures ∙ (λ i. list_any (λ other. other / 281474976710656 == c.high_half.ensures i / 281474976710656) (take 8 (drop c.args.at (c.as_slice.ensures.value i))) || list_any (λ len. nat_lt len 16) (take 8 (drop c.args.at (c.as_slice-2.ensures.value i)))))
    ∙ covered_in_group columns.high.items columns.low.items columns.len.items c.args.slot c.args.at k columns.low_too columns.len_too (omega (arith, long)) from to (ap (λ slots. covers_at slots c.args.slot k) c.self.view_is ∙ covers)
