use Rattle.std.proofs.Common.{◌≡◌, true, subst, sym}
use Rattle.std.specs.List.{All}
use Rattle.std.proofs.lemmas.List.Sorted.{All-permutation}
use Rattle.conf_tree.specs.declared.sets.PrefixRange.{PrefixRange}
use Rattle.conf_sets.specs.Tables.{is_of_family}
use Rattle.roa_check.proofs.Placing.{all_pass}
use Rattle.conf_sets.proofs.Ranges.{ranges_ascending, family_all}
use Rattle.conf_sets.proofs.range_side.ordered.Goals as goal

pub returns-clause-order : goal.returns-clause-order
returns-clause-order c =
    let all = subst (All (λ (range : PrefixRange). is_of_family c.args.family range ≡ true)) (sym c.in_ok-ranges.ensures) (all_pass (is_of_family c.args.family) c.args.list.now) in
    ranges_ascending c.args.family _ (family_all c.args.family _ (All-permutation (λ (range : PrefixRange). is_of_family c.args.family range ≡ true) _ _ c.sort_unstable.ensures.permutation all)) c.sort_unstable.ensures.sorted
