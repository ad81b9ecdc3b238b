use Rattle.std.proofs.Common.{◌∙◌, ap, sym}
use Rattle.std.specs.List.{list_any}
use Rattle.conf_sets.proofs.range_table.RangeTable.build.Goals as goal

pub invariant_of-result : goal.invariant_of-result
invariant_of-result c = (
  (λ test fits. c.in_ok-build.ensures test fits ∙ ap (list_any test) (sym c.in_ok-from_slice.ensures)),
  ((λ test fits. c.in_ok-build-2.ensures test fits ∙ ap (list_any test) (sym c.in_ok-from_slice.ensures)), tt),
)
