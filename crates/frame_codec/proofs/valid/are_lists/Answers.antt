use Rattle.std.proofs.Common.{◌∙◌, List, ℕ, subst, sym}
use Rattle.std.specs.Ordering.{nat_cmp}
use Rattle.std.specs.List.Sorted.{IsStrictlySortedBy}
use Rattle.attr_model.specs.Valid.{large_cmp}
use Rattle.frame_codec.proofs.valid.are_lists.Goals.{then-are_ascending, else-are_ascending}
use Rattle.frame_codec.proofs.valid.are_lists.Goals as goal

pub returns-else-are_ascending-2 : goal.returns-else-are_ascending-2
returns-else-are_ascending-2 c = (
  λ t. absurd cc,
  λ is.
      elim c.if-are_ascending.branch [
        | then-are_ascending w ↦
            w.value-is ∙ w.are_ascending-then-are_ascending.ensures.1 (subst (λ (l : List (ℕ × ℕ × ℕ)). IsStrictlySortedBy large_cmp l) (sym w.as_slice-then-are_ascending.ensures) is.large)
        | else-are_ascending w ↦ absurd (let all = c.are_ascending.ensures.1 (subst (λ (l : List ℕ). IsStrictlySortedBy nat_cmp l) (sym c.as_slice.ensures) is.communities) in cc)
      ],
)
