use Rattle.std.proofs.Common.{◌∙◌, ap}
use Rattle.std.specs.Prelude.{fold}
use Rattle.std.specs.BTreeSet.{insert_key}
use Rattle.conf_tree.specs.Flat.{roa_cmp}
use Rattle.conf_tree.specs.Said.{roas_of}
use Rattle.conf_check.proofs.Folds.{fold_step}
use Rattle.conf_tree.proofs.Orders.{derived_roa_cmp}
use Rattle.conf_check.proofs.ordered.roas.Goals as goal

pub loop-line-preserved : goal.loop-line-preserved
loop-line-preserved c =
    fold_step (insert_key roa_cmp) (λ s. roas_of s.statement) c.args.lines.now c.loop-line.line-index c.line-item.result
    c.loop-line.ordered.keys c.add_all.new.ordered.keys _ c.loop-line-test.true c.line-item.is
    (c.in_ok-add_all.ensures
    ∙ ap (λ cmp. fold (insert_key cmp) c.loop-line.ordered.keys c.roas_of.result.now) derived_roa_cmp
    ∙ ap (fold (insert_key roa_cmp) c.loop-line.ordered.keys) c.roas_of.ensures)
    c.loop-line.invariant
