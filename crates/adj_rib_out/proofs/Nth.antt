-- Places in a queue.
use Rattle.std.proofs.Common.{◌≡◌, ℕ, zero, suc, ◌+◌, ◌-◌, ◌≤◌, Bool, true, false, ◌&&◌, Option, None, refl, subst, arith}
use Rattle.net_base.specs.declared.prefix.Prefix.{Prefix}
use Rattle.net_base.specs.PrefixSet.{IsLeast}
use Rattle.adj_rib_out.specs.Queue.{is_above, IsNth}

pub nth_more : (test : Prefix → Bool) (n : ℕ) (before found : Option Prefix) → IsNth test n before → IsLeast (λ p. test p && is_above before p) found → IsNth test (n + 1) found
nth_more test n before found nth least = subst (λ n. IsNth test n found) one_more (before, (nth, least))
  where
    one_more : suc n ≡ n + 1
    one_more = omega arith

pub no_more : (test : Prefix → Bool) (p : Prefix) → (test p && false) ≡ false
no_more test p = go (test p)
  where
    go : (b : Bool) → (b && false) ≡ false
    go b = elim b as (λ b. (b && false) ≡ false) [ true ↦ refl | false ↦ refl ]

-- where none is there, none comes later
pub none_later : (test : Prefix → Bool) (n more : ℕ) → IsNth test n None → IsNth test (n + more) None
none_later test n zero none = subst (λ n. IsNth test n None) same none
  where
    same : n ≡ n + 0
    same = omega arith
none_later test n (suc more) none = subst (λ n. IsNth test n None) same (None, (none_later test n more none, no_more test))
  where
    same : suc (n + more) ≡ n + suc more
    same = omega arith

pub none_until : (test : Prefix → Bool) (n at : ℕ) → IsNth test n None → n ≤ at → IsNth test at None
none_until test n at none le = subst (λ n. IsNth test n None) same (none_later test n (at - n) none)
  where
    same : n + (at - n) ≡ at
    same = omega (arith, le)
