-- Two addresses, or two prefixes, are one where their fields are.
use Rattle.std.proofs.Common.{◌≡◌, ℕ, ◌-◌, ◌%◌, ◌^◌, ◌<◌, ◌≤◌, subst}
use denote.Struct.Props.{props}
use Rattle.net_base.specs.declared.addr.Family.{Family}
use Rattle.net_base.specs.declared.addr.Addr.{Addr}
use Rattle.net_base.specs.declared.prefix.Prefix.{Prefix}
use Rattle.net_base.specs.Width.{width_of}

pub same_addr : (a b : Addr) → a.family ≡ b.family → a.bits ≡ b.bits → a ≡ b
same_addr a b e f =
    let Same : Family → ℕ → Type 0 = λ g n. (h : n < 2 ^ width_of g) → a ≡ record { family = g; bits = n; in_family = h } in
    let is_prop : IsProp (a.bits < 2 ^ width_of a.family) = hlevel props in
    let base : Same a.family a.bits = λ h. λ i. record { family = a.family; bits = a.bits; in_family = is_prop a.in_family h i } in
    subst (λ (n : ℕ). Same b.family n) f (subst (λ (g : Family). Same g a.bits) e base) b.in_family

pub same_prefix : (p q : Prefix) → p.family ≡ q.family → p.bits ≡ q.bits → p.len ≡ q.len → p ≡ q
same_prefix p q e f l =
    let Same : Family → ℕ → ℕ → Type 0 = λ g n k. (h : n < 2 ^ width_of g) (w : k ≤ width_of g) (z : n % 2 ^ (width_of g - k) ≡ 0) → p ≡ record { family = g; bits = n; len = k; in_family = h; within = w; host_bits_zero = z } in
    let fit_prop : IsProp (p.bits < 2 ^ width_of p.family) = hlevel props in
    let within_prop : IsProp (p.len ≤ width_of p.family) = hlevel props in
    let zero_prop : IsProp (p.bits % 2 ^ (width_of p.family - p.len) ≡ 0) = hlevel props in
    let base : Same p.family p.bits p.len = λ h w z. λ i. record {
      family = p.family;
      bits = p.bits;
      len = p.len;
      in_family = fit_prop p.in_family h i;
      within = within_prop p.within w i;
      host_bits_zero = zero_prop p.host_bits_zero z i;
    } in
    subst (λ (k : ℕ). Same q.family q.bits k) l
    (subst (λ (n : ℕ). Same q.family n p.len) f (subst (λ (g : Family). Same g p.bits p.len) e base))
    q.in_family q.within q.host_bits_zero
