use Rattle.std.proofs.Common.{rules, ◌∙◌, ap, ◌++◌, ◌∷◌, []}
use Rattle.lane_scan.proofs.Slots.{slots_pushed}
use Rattle.lane_scan.proofs.columns.Columns.push.Goals as goal

pub returns-clause-ok : goal.returns-clause-ok
returns-clause-ok c =
    let columns = c.self.inside in
    slots_pushed columns.high.items columns.low.items columns.len.items _ _ _ c.args.slot columns.low_too columns.len_too (search rules) (search rules) (search rules)
    ∙ ap (λ slots. slots ++ c.args.slot ∷ []) c.self.view_is
