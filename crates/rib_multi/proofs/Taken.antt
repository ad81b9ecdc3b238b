-- There is one least marked prefix.
use Rattle.std.proofs.Common.{◌≡◌, Bool, true, false, not, ◌&&◌, List, Option, Some, None, refl, sym, ap, ◌∙◌, subst, true≢false}
use Rattle.std.specs.Prelude.{IfSome}
use Rattle.std.specs.Ordering.{is_eq, is_gt, is_lt, eq_by_cmp, ordering_reverse}
use Rattle.std.specs.declared.cmp.Ordering.{Ordering}
use Rattle.std.specs.declared.cmp.Ordering.TheVariants.{Less, Equal, Greater}
use Rattle.net_base.specs.declared.prefix.Prefix.{Prefix}
use Rattle.net_base.specs.Order.{prefix_cmp}
use Rattle.net_base.specs.PrefixSet.{IsLeast, IsLeastOf}
use Rattle.net_base.proofs.Order.{prefix_cmp-total, prefix_cmp-Equal}
use Rattle.sweep_jobs.specs.Marks.{MarkedPrefixes, is_marked}

equal_from : (o : Ordering) → is_gt o ≡ false → is_gt (ordering_reverse o) ≡ false → is_eq o ≡ true
equal_from Less g r = absurd (true≢false r)
equal_from Equal g r = refl
equal_from Greater g r = absurd (true≢false g)

pub same_least : (test : Prefix → Bool) (p q : Prefix) → IsLeastOf test p → IsLeastOf test q → p ≡ q
same_least test p q one other =
    prefix_cmp-Equal p q (equal_from (prefix_cmp p q) (one.least q other.passes) (ap is_gt (sym (prefix_cmp-total.antisymm q p)) ∙ other.least p one.passes))

abbrev pub WithoutMark : List Prefix → MarkedPrefixes → MarkedPrefixes → Prefix → Type 0
WithoutMark known old new prefix = (q : Prefix) → is_marked known new q ≡ (not (eq_by_cmp prefix_cmp q prefix) && is_marked known old q)

pub taken_is : (known : List Prefix) (old new : MarkedPrefixes) (prefix : Prefix) (found : Option Prefix) → IsLeastOf (is_marked known old) prefix → IsLeast (is_marked known old) found → IfSome found (WithoutMark known old new) → WithoutMark known old new prefix
taken_is known old new prefix None least found taken = absurd (true≢false (sym least.passes ∙ found prefix))
taken_is known old new prefix (Some p) least found taken = subst (WithoutMark known old new) (same_least (is_marked known old) p prefix found least) taken
