use Rattle.std.proofs.Common.{◌∙◌, ap, sym}
use Rattle.std.specs.Prelude.{◌==◌, ℕ, List}
use Rattle.std.specs.List.{list_any}
use Rattle.std.proofs.lemmas.List.Sorted.{list_any-IsPermutation}
use Rattle.conf_sets.proofs.Numbers.{rises_from_sorted}
use Rattle.conf_sets.proofs.as_table.in_order.Goals as goal

pub returns-clause-same : goal.returns-clause-same
returns-clause-same c asn =
    sym (list_any-IsPermutation (λ number. number == asn) _ _ c.sort_unstable.ensures.permutation)
    ∙ ap (λ (numbers : List ℕ). list_any (λ number. number == asn) numbers) c.in_ok-numbers.ensures.items

pub returns-clause-rising : goal.returns-clause-rising
returns-clause-rising c = rises_from_sorted _ c.sort_unstable.ensures.sorted
