-- The sets of a configuration are in the order of their names.
use Rattle.std.proofs.Common.{List, map, refl}
use Rattle.std.specs.Ordering.{nat_cmp}
use Rattle.conf_tree.specs.declared.draft.StatementLine.{StatementLine}
use Rattle.conf_tree.specs.Said.{said, prefix_set_of, as_set_of, origin_set_of}
use Rattle.conf_tree.specs.Flat.{range_cmp, roa_cmp, in_order, frame_of}
use Rattle.conf_tree.proofs.Sorted.{sets_sorted}
use Rattle.conf_check.specs.Names.{HasOrderedSets}

pub frame_sorted : (lines : List StatementLine) → HasOrderedSets (frame_of lines)
unfolding frame_of
frame_sorted lines = record {
  prefix_sets = sets_sorted (λ s. s.name) (λ set. record { name = set.0; entries = set.1 }) (λ e. refl) (map (λ set. (set.0, in_order range_cmp set.1)) (said prefix_set_of lines));
  as_sets = sets_sorted (λ s. s.name) (λ set. record { name = set.0; numbers = set.1 }) (λ e. refl) (map (λ set. (set.0, in_order nat_cmp set.1)) (said as_set_of lines));
  origin_sets = sets_sorted (λ s. s.name) (λ set. record { name = set.0; entries = set.1 }) (λ e. refl) (map (λ set. (set.0, in_order roa_cmp set.1)) (said origin_set_of lines));
}
