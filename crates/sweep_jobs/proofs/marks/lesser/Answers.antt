use Rattle.std.proofs.Common.{◌≡◌, true, false, rules, subst}
use Rattle.std.specs.Ordering.{is_lt}
use Rattle.net_base.specs.Order.{prefix_cmp}
use Rattle.net_base.specs.PrefixSet.{IsLeast}
use Rattle.sweep_jobs.proofs.Sweeps.{first_is_least, second_is_least, not_above}
use Rattle.sweep_jobs.proofs.marks.lesser.Goals as goal

pub returns-then-lt : goal.returns-then-lt
returns-then-lt c =
    let below : is_lt (prefix_cmp c.in-Some-Some.other c.in-Some-Some.one) ≡ true = search rules in
    λ here there one other.
    second_is_least here there c.in-Some-Some.one c.in-Some-Some.other (subst (IsLeast here) c.in-Some-Some.is-0 one) (subst (IsLeast there) c.in-Some-Some.is-1 other) below

pub returns-else-lt : goal.returns-else-lt
returns-else-lt c =
    let above : is_lt (prefix_cmp c.in-Some-Some.other c.in-Some-Some.one) ≡ false = search rules in
    λ here there one other.
    first_is_least here there c.in-Some-Some.one c.in-Some-Some.other (subst (IsLeast here) c.in-Some-Some.is-0 one) (subst (IsLeast there) c.in-Some-Some.is-1 other)
    (not_above c.in-Some-Some.one c.in-Some-Some.other above)
