-- What a call of std's sets of addresses leaves, at every address.
use Rattle.std.proofs.Common.{◌≡◌, Bool, true, false, cond, not, ◌&&◌, List, refl, ap, subst, ◌∙◌}
use Rattle.std.specs.Cmp.{eq_by_cmp_equiv}
use Rattle.std.specs.List.{list_any}
use Rattle.std.specs.Ordering.{is_eq, eq_by_cmp}
use Rattle.std.specs.declared.cmp.Ordering.{Ordering}
use Rattle.net_base.specs.declared.addr.Addr.{Addr}
use Rattle.net_base.specs.Order.{addr_cmp}
use Rattle.net_base.proofs.Order.{addr_cmp-total}
use Rattle.nexthop_track.specs.Hops.{is_tracked_in}

and_is : (b x : Bool) → cond b false x ≡ (not b && x)
and_is true x = refl
and_is false x = refl

abbrev Removed : (Addr → Addr → Ordering) → List Addr → List Addr → Addr → Type 0
Removed order old new a = (q : Addr) → list_any (eq_by_cmp order q) new ≡ cond (is_eq (order a q)) false (list_any (eq_by_cmp order q) old)

pub untracked : (order : Addr → Addr → Ordering) → order ≡ addr_cmp → (old new : List Addr) (a : Addr) → Removed order old new a → (q : Addr) → is_tracked_in new q ≡ (not (eq_by_cmp addr_cmp q a) && is_tracked_in old q)
untracked order e old new a h q =
    subst (λ (r : Addr → Addr → Ordering). Removed r old new a) e h q
    ∙ ap (λ b. cond b false (is_tracked_in old q)) ((eq_by_cmp_equiv addr_cmp-total).symm a q)
    ∙ and_is (eq_by_cmp addr_cmp q a) (is_tracked_in old q)
