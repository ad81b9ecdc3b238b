-- The order of families, addresses and prefixes: IPv4 before IPv6, then the bits, then the length.
use Rattle.std.specs.Prelude.{ℕ, Bool, true, false}
use Rattle.std.specs.declared.cmp.Ordering.{Ordering}
use Rattle.std.specs.Ordering.{nat_cmp, on, then_cmp}
use Rattle.net_base.specs.declared.addr.Family.{Family}
use Rattle.net_base.specs.declared.addr.Family.TheVariants.{V4, V6}
use Rattle.net_base.specs.declared.addr.Addr.{Addr}
use Rattle.net_base.specs.declared.prefix.Prefix.{Prefix}

abbrev pub same_family : Family → Family → Bool
same_family V4 V4 = true
same_family V4 V6 = false
same_family V6 V4 = false
same_family V6 V6 = true

-- the place of a family in the order
abbrev pub family_place : Family → ℕ
family_place V4 = 0
family_place V6 = 1

abbrev pub family_cmp : Family → Family → Ordering
family_cmp = on family_place nat_cmp

abbrev pub addr_cmp : Addr → Addr → Ordering
addr_cmp = then_cmp (on (λ a. a.family) family_cmp) (on (λ a. a.bits) nat_cmp)

abbrev pub prefix_cmp : Prefix → Prefix → Ordering
prefix_cmp = then_cmp (on (λ p. p.family) family_cmp) (then_cmp (on (λ p. p.bits) nat_cmp) (on (λ p. p.len) nat_cmp))
