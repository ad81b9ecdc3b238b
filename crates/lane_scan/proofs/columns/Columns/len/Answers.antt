use Rattle.std.proofs.Common.{◌∙◌, sym, ap, length, arith}
use Rattle.lane_scan.proofs.Slots.{length-slots}
use Rattle.lane_scan.proofs.columns.Columns.len.Goals as goal

pub returns : goal.returns
returns c =
    let columns = c.self.inside in
    let long = ap length (sym c.self.view_is) ∙ length-slots columns.high.items columns.low.items columns.len.items columns.low_too columns.len_too in
    omega (arith, long)
