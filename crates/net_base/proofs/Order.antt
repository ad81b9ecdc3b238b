-- The orders of addresses and prefixes are total, and two values compare equal only where they are one.
use Rattle.std.proofs.Common.{◌≡◌, ℕ, true, List, refl, sym, ◌∙◌, rules, true≢false, Contains}
use Rattle.std.proofs.lemmas.Bool.Decides.{Decides-eqb}
use Rattle.std.proofs.lemmas.Map.Views.{Contains-from_any, list_any-from_Contains}
use Rattle.std.specs.Bool.{Decides}
use Rattle.std.specs.Cmp.{IsTotalOrder, eq_by_cmp_equiv, unsigned_ties}
use Rattle.std.specs.Cmp.Rules.{comparing}
use Rattle.std.specs.List.{list_any}
use Rattle.std.specs.Ordering.{is_eq, eq_by_cmp, nat_cmp, ordering_then}
use Rattle.std.specs.declared.cmp.Ordering.{Ordering}
use Rattle.std.specs.declared.cmp.Ordering.TheVariants.{Less, Equal, Greater}
use Rattle.net_base.specs.declared.addr.Family.{Family}
use Rattle.net_base.specs.declared.addr.Family.TheVariants.{V4, V6}
use Rattle.net_base.specs.declared.addr.Addr.{Addr}
use Rattle.net_base.specs.declared.prefix.Prefix.{Prefix}
use Rattle.net_base.specs.contracts.addr.AddrOrd.TheImpl.{cmp-value as derived_addr}
use Rattle.net_base.specs.contracts.prefix.PrefixOrd.TheImpl.{cmp-value as derived_prefix}
use Rattle.net_base.specs.Order.{family_cmp, addr_cmp, prefix_cmp}
use Rattle.net_base.proofs.Equal.{same_addr, same_prefix}

pub family_cmp-total : IsTotalOrder family_cmp
family_cmp-total = search (comparing, rules)

pub addr_cmp-total : IsTotalOrder addr_cmp
addr_cmp-total = search (comparing, rules)

pub prefix_cmp-total : IsTotalOrder prefix_cmp
prefix_cmp-total = search (comparing, rules)

-- ---- equal is the same

both_equal : (a b : Ordering) → is_eq (ordering_then a b) ≡ true → (is_eq a ≡ true) × (is_eq b ≡ true)
both_equal Less b e = absurd (true≢false (sym e))
both_equal Equal b e = (refl, e)
both_equal Greater b e = absurd (true≢false (sym e))

numbers_equal : (m n : ℕ) → is_eq (nat_cmp m n) ≡ true → m ≡ n
numbers_equal m n e = (Decides-eqb m n).0 (unsigned_ties m n ∙ e)

families_equal : (f g : Family) → is_eq (family_cmp f g) ≡ true → f ≡ g
families_equal V4 V4 e = refl
families_equal V4 V6 e = absurd (true≢false (sym e))
families_equal V6 V4 e = absurd (true≢false (sym e))
families_equal V6 V6 e = refl

pub addr_cmp-Equal : (a b : Addr) → eq_by_cmp addr_cmp a b ≡ true → a ≡ b
addr_cmp-Equal a b e =
    let (family, bits) = both_equal (family_cmp a.family b.family) (nat_cmp a.bits b.bits) e in
    same_addr a b (families_equal a.family b.family family) (numbers_equal a.bits b.bits bits)

pub prefix_cmp-Equal : (p q : Prefix) → eq_by_cmp prefix_cmp p q ≡ true → p ≡ q
prefix_cmp-Equal p q e =
    let (family, rest) = both_equal (family_cmp p.family q.family) (ordering_then (nat_cmp p.bits q.bits) (nat_cmp p.len q.len)) e in
    let (bits, len) = both_equal (nat_cmp p.bits q.bits) (nat_cmp p.len q.len) rest in
    same_prefix p q (families_equal p.family q.family family) (numbers_equal p.bits q.bits bits) (numbers_equal p.len q.len len)

-- the test by which a set finds a prefix
pub prefixes-Contains : (p : Prefix) (ps : List Prefix) → Decides (list_any (eq_by_cmp prefix_cmp p) ps) (Contains ps p)
prefixes-Contains p ps = (
  Contains-from_any prefix_cmp-Equal p ps,
  list_any-from_Contains (eq_by_cmp_equiv prefix_cmp-total) p ps,
)

-- ---- the derived orders, which maps, sets and sorts go by, are these

derived_addr_at : (a b : Addr) → derived_addr.it a b ≡ addr_cmp a b
derived_addr_at a b = search rules

pub derived_addr_cmp : derived_addr.it ≡ addr_cmp
derived_addr_cmp = λ i a b. derived_addr_at a b i

derived_prefix_at : (p q : Prefix) → derived_prefix.it p q ≡ prefix_cmp p q
derived_prefix_at p q = search rules

pub derived_prefix_cmp : derived_prefix.it ≡ prefix_cmp
derived_prefix_cmp = λ i p q. derived_prefix_at p q i
