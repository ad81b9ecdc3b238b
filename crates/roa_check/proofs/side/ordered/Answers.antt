use Rattle.std.proofs.Common.{◌≡◌, true, subst, sym}
use Rattle.std.specs.List.{All}
use Rattle.std.proofs.lemmas.List.Sorted.{All-permutation}
use Rattle.net_base.specs.declared.roa.Roa.{Roa}
use Rattle.roa_check.specs.Table.{is_of_family}
use Rattle.roa_check.proofs.Placing.{all_pass, roas_ascending, family_all}
use Rattle.roa_check.proofs.side.ordered.Goals as goal

pub returns-clause-order : goal.returns-clause-order
returns-clause-order c =
    let all = subst (All (λ (roa : Roa). is_of_family c.args.family roa ≡ true)) (sym c.in_ok-roas.ensures) (all_pass (is_of_family c.args.family) c.args.list.now) in
    roas_ascending c.args.family _ (family_all c.args.family _ (All-permutation (λ (roa : Roa). is_of_family c.args.family roa ≡ true) _ _ c.sort_unstable.ensures.permutation all)) c.sort_unstable.ensures.sorted
