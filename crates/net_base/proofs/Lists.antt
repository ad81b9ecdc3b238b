-- Two addresses, two prefixes, or two lists of them, are equal by `==` only where they are one.
use Rattle.std.proofs.Common.{◌≡◌, ℕ, ◌-◌, ◌%◌, ◌^◌, ◌<◌, ◌≤◌, ◌&&◌, List, ◌==◌, refl, sym, ap, ◌∙◌}
use Rattle.std.proofs.lemmas.Bool.{and_parts, and_from}
use Rattle.std.proofs.lemmas.Bool.Decides.{Decides-eqb}
use Rattle.std.specs.Bool.{Decides}
use Rattle.std.specs.Cmp.Lexicographic.{pointwise, pointwise_decides}
use Rattle.net_base.specs.declared.addr.Family.{Family}
use Rattle.net_base.specs.declared.addr.Family.TheVariants.{V4, V6}
use Rattle.net_base.specs.declared.addr.Addr.{Addr}
use Rattle.net_base.specs.declared.prefix.Prefix.{Prefix}
use Rattle.net_base.specs.contracts.addr.AddrPartialEq.TheImpl.{eq-value as addr_eq}
use Rattle.net_base.specs.contracts.prefix.PrefixPartialEq.TheImpl.{eq-value as prefix_eq}
use Rattle.net_base.specs.Width.{width_of}
use Rattle.net_base.specs.Order.{same_family}
use Rattle.net_base.proofs.Covering.{same_family_Decides}
use Rattle.net_base.proofs.Equal.{same_addr, same_prefix}

-- what the derived `==` computes, family by family

addr_eq_at : (f g : Family) (m n : ℕ) (p : m < 2 ^ width_of f) (q : n < 2 ^ width_of g)
    → addr_eq.it (record { family = f; bits = m; in_family = p }) (record { family = g; bits = n; in_family = q }) ≡ (same_family f g && (m == n))
addr_eq_at V4 V4 m n p q = refl
addr_eq_at V4 V6 m n p q = refl
addr_eq_at V6 V4 m n p q = refl
addr_eq_at V6 V6 m n p q = refl

prefix_eq_at : (f g : Family) (m n k l : ℕ) (p : m < 2 ^ width_of f) (q : n < 2 ^ width_of g) (v : k ≤ width_of f) (w : l ≤ width_of g) (y : m % 2 ^ (width_of f - k) ≡ 0) (z : n % 2 ^ (width_of g - l) ≡ 0)
    → prefix_eq.it (record { family = f; bits = m; len = k; in_family = p; within = v; host_bits_zero = y }) (record { family = g; bits = n; len = l; in_family = q; within = w; host_bits_zero = z }) ≡ (same_family f g && ((m == n) && (k == l)))
prefix_eq_at V4 V4 m n k l p q v w y z = refl
prefix_eq_at V4 V6 m n k l p q v w y z = refl
prefix_eq_at V6 V4 m n k l p q v w y z = refl
prefix_eq_at V6 V6 m n k l p q v w y z = refl

pub addr_eq-Decides : (a b : Addr) → Decides (addr_eq.it a b) (a ≡ b)
addr_eq-Decides a b =
    let is = addr_eq_at a.family b.family a.bits b.bits a.in_family b.in_family in (
      λ e.
          let (family, bits) = and_parts _ _ (sym is ∙ e) in
          same_addr a b ((same_family_Decides a.family b.family).0 family) ((Decides-eqb a.bits b.bits).0 bits),
      λ e.
          let family = (same_family_Decides a.family b.family).1 (ap (λ (x : Addr). x.family) e) in
          is ∙ and_from _ _ family ((Decides-eqb a.bits b.bits).1 (ap (λ (x : Addr). x.bits) e)),
    )

pub prefix_eq-Decides : (p q : Prefix) → Decides (prefix_eq.it p q) (p ≡ q)
prefix_eq-Decides p q =
    let is = prefix_eq_at p.family q.family p.bits q.bits p.len q.len p.in_family q.in_family p.within q.within p.host_bits_zero q.host_bits_zero in (
      λ e.
          let (family, rest) = and_parts _ _ (sym is ∙ e) in
          let (bits, len) = and_parts _ _ rest in
          same_prefix p q ((same_family_Decides p.family q.family).0 family) ((Decides-eqb p.bits q.bits).0 bits) ((Decides-eqb p.len q.len).0 len),
      λ e.
          let family = (same_family_Decides p.family q.family).1 (ap (λ (x : Prefix). x.family) e) in
          let bits = (Decides-eqb p.bits q.bits).1 (ap (λ (x : Prefix). x.bits) e) in
          let len = (Decides-eqb p.len q.len).1 (ap (λ (x : Prefix). x.len) e) in
          is ∙ and_from _ _ family (and_from _ _ bits len),
    )

pub addr_list_eq-Decides : (xs ys : List Addr) → Decides (pointwise addr_eq.it xs ys) (xs ≡ ys)
addr_list_eq-Decides xs ys = pointwise_decides addr_eq-Decides xs ys

pub prefix_list_eq-Decides : (ps qs : List Prefix) → Decides (pointwise prefix_eq.it ps qs) (ps ≡ qs)
prefix_list_eq-Decides ps qs = pointwise_decides prefix_eq-Decides ps qs
