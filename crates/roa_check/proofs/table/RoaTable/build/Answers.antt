use Rattle.std.proofs.Common.{◌∙◌, ap, sym}
use Rattle.std.specs.List.{list_any}
use Rattle.roa_check.proofs.table.RoaTable.build.Goals as goal

pub invariant_of-result : goal.invariant_of-result
invariant_of-result c = (
  (λ test fits. c.in_ok-build.ensures test fits ∙ ap (list_any test) (c.as_slice-2.ensures ∙ (sym c.as_slice.ensures ∙ sym c.in_ok-from_slice.ensures))),
  ((λ test fits. c.in_ok-build-2.ensures test fits ∙ ap (list_any test) (c.as_slice-3.ensures ∙ (sym c.as_slice.ensures ∙ sym c.in_ok-from_slice.ensures))), tt),
)
