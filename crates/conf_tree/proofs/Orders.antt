-- The derived orders, which maps, sets and searches go by, are those of the definitions.
use Rattle.std.proofs.Common.{◌≡◌, ◌∙◌, ◌&&◌, refl, sym, ap, rules}
use Rattle.std.specs.Prelude.{bytes_eq, ◌==◌}
use Rattle.std.specs.declared.cmp.Ordering.{Ordering}
use Rattle.std.specs.declared.cmp.Ordering.TheVariants.{Less, Equal, Greater}
use Rattle.std.specs.Ordering.{is_eq, eq_by_cmp, nat_cmp, ordering_then}
use Rattle.std.specs.Cmp.{unsigned_ties}
use Rattle.std.specs.Cmp.Lexicographic.{slice_cmp}
use Rattle.std.proofs.lemmas.Map.Text.{is_eq-slice_cmp}
use Rattle.net_base.specs.declared.addr.Family.{Family}
use Rattle.net_base.specs.declared.addr.Family.TheVariants.{V4, V6}
use Rattle.net_base.specs.declared.addr.Addr.{Addr}
use Rattle.net_base.specs.declared.roa.Roa.{Roa}
use Rattle.net_base.specs.contracts.roa.RoaOrd.TheImpl.{cmp-value as derived_roa}
use Rattle.net_base.specs.contracts.prefix.PrefixOrd.TheImpl.{cmp-value as derived_prefix}
use Rattle.net_base.specs.contracts.addr.AddrOrd.TheImpl.{cmp-value as derived_addr}
use Rattle.net_base.specs.Order.{addr_cmp, prefix_cmp, family_cmp, same_family}
use Rattle.net_base.proofs.Order.{derived_addr_cmp, derived_prefix_cmp}
use Rattle.conf_tree.specs.declared.sets.PrefixRange.{PrefixRange}
use Rattle.conf_tree.specs.contracts.sets.PrefixRangeOrd.TheImpl.{cmp-value as derived_range}
use Rattle.conf_tree.specs.Flat.{roa_cmp, range_cmp}
use Rattle.conf_tree.specs.Checks.{same_addr}

derived_roa_at : (a b : Roa) → derived_roa.it a b ≡ roa_cmp a b
derived_roa_at a b = search rules

pub derived_roa_cmp : derived_roa.it ≡ roa_cmp
derived_roa_cmp = λ i a b. derived_roa_at a b i

derived_range_at : (a b : PrefixRange) → derived_range.it a b ≡ range_cmp a b
derived_range_at a b = search rules

pub derived_range_cmp : derived_range.it ≡ range_cmp
derived_range_cmp = λ i a b. derived_range_at a b i

pub derived_prefix_order : derived_prefix.it ≡ prefix_cmp
derived_prefix_order = derived_prefix_cmp

pub derived_addr_order : derived_addr.it ≡ addr_cmp
derived_addr_order = derived_addr_cmp

-- ---- what compares equal is what the definitions call the same

pub text_same : eq_by_cmp (slice_cmp nat_cmp) ≡ bytes_eq
text_same = λ i a b. is_eq-slice_cmp a b i

pub number_same : eq_by_cmp nat_cmp ≡ (λ a b. a == b)
number_same = λ i a b. sym (unsigned_ties a b) i

equal_then : (a b : Ordering) → is_eq (ordering_then a b) ≡ (is_eq a && is_eq b)
equal_then Less b = refl
equal_then Equal b = refl
equal_then Greater b = refl

families : (a b : Family) → is_eq (family_cmp a b) ≡ same_family a b
families V4 V4 = refl
families V4 V6 = refl
families V6 V4 = refl
families V6 V6 = refl

addr_same_at : (a b : Addr) → eq_by_cmp derived_addr.it a b ≡ same_addr a b
addr_same_at a b =
    ap (λ cmp. is_eq (cmp a b)) derived_addr_cmp
    ∙ equal_then (family_cmp a.family b.family) (nat_cmp a.bits b.bits)
    ∙ (λ i. families a.family b.family i && sym (unsigned_ties a.bits b.bits) i)

pub addr_same : eq_by_cmp derived_addr.it ≡ same_addr
addr_same = λ i a b. addr_same_at a b i
