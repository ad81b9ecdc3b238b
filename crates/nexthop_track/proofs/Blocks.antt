-- The addresses that a prefix covers are those from its first to its last.
use Rattle.std.proofs.Common.{◌≡◌, ℕ, ◌+◌, ◌-◌, ◌*◌, ◌%◌, ◌/◌, ◌^◌, ◌<◌, ◌≤◌, Bool, true, false, not, ◌&&◌, nat_eq, nat_le, refl, sym, ap, ◌∙◌, arith, eq-eqb, ne_eqb, le-leb, inl, inr, lit<, add-one}
use Rattle.std.proofs.lemmas.Bool.{cases_lt}
use Rattle.std.proofs.lemmas.Nat.{pow_pos, pow-add, div-add-mod'}
use Rattle.std.proofs.Math.Nat.{mod-lt, div-eq_of_lt-le, mul-le-mul_right, suc-mul}
use Rattle.std.specs.BTreeMap.Range.{range_contains}
use Rattle.std.specs.Cmp.{ranked}
use Rattle.std.specs.Ordering.{is_le, is_lt, nat_cmp, ordering_then}
use Rattle.std.specs.declared.cmp.Ordering.{Ordering}
use Rattle.std.specs.declared.cmp.Ordering.TheVariants.{Less, Equal, Greater}
use Rattle.std.specs.declared.ops.Bound.TheVariants.{Included}
use Rattle.net_base.specs.declared.addr.Family.{Family}
use Rattle.net_base.specs.declared.addr.Family.TheVariants.{V4, V6}
use Rattle.net_base.specs.declared.addr.Addr.{Addr}
use Rattle.net_base.specs.declared.prefix.Prefix.{Prefix}
use Rattle.net_base.specs.Bits.{prefix_addr, host_len, first_bits}
use Rattle.net_base.specs.Order.{addr_cmp, family_cmp, same_family}
use Rattle.net_base.specs.Prefix.{covers}
use Rattle.net_base.specs.Width.{width_of}
use Rattle.nexthop_track.specs.Hops.{host_of}
use Rattle.nexthop_track.proofs.Coverings.{host_bits, host_width}

add_one-mul : (k m : ℕ) → (k + 1) * m ≡ k * m + m
add_one-mul k m = rw add-one (suc-mul k m)

less_front : (b x m : ℕ) → b % m ≡ 0 → x < b → nat_eq (b / m) (x / m) ≡ false
less_front b x m cleared h = ne_eqb _ _ (λ e. absurd (omega (arith, div-add-mod' b m, div-add-mod' x m, ap (λ n. n * m) e)))

more_front : (b x m : ℕ) → 0 < m → b % m ≡ 0 → b + (m - 1) < x → nat_eq (b / m) (x / m) ≡ false
more_front b x m some cleared h = ne_eqb _ _ (λ e. absurd (omega (arith, div-add-mod' b m, div-add-mod' x m, mod-lt x some, ap (λ n. n * m) e)))

same_front : (b x m : ℕ) → 0 < m → b % m ≡ 0 → b ≤ x → x ≤ b + (m - 1) → nat_eq (b / m) (x / m) ≡ true
same_front b x m some cleared low high =
    let k : ℕ = b / m in
    let whole : k * m ≡ b = omega (arith, div-add-mod' b m) in
    let next : (k + 1) * m ≡ b + m = add_one-mul k m ∙ ap (λ n. n + m) whole in
    eq-eqb (b / m) (x / m) (sym (div-eq_of_lt-le m (omega (arith, whole)) (omega (arith, next))))

in_block : (b x m : ℕ) → 0 < m → b % m ≡ 0 → (is_le (nat_cmp b x) && not (is_lt (nat_cmp (b + (m - 1)) x))) ≡ nat_eq (b / m) (x / m)
in_block b x m some cleared = low (nat_cmp b x) refl
  where
    high : b ≤ x → (r : Ordering) → nat_cmp (b + (m - 1)) x ≡ r → not (is_lt r) ≡ nat_eq (b / m) (x / m)
    high up Less e = sym (more_front b x m some cleared (ranked (b + (m - 1)) x Less (sym e)))
    high up Equal e = sym (same_front b x m some cleared up (omega (arith, ranked (b + (m - 1)) x Equal (sym e))))
    high up Greater e = sym (same_front b x m some cleared up (omega (arith, ranked (b + (m - 1)) x Greater (sym e))))

    low : (r : Ordering) → nat_cmp b x ≡ r → (is_le r && not (is_lt (nat_cmp (b + (m - 1)) x))) ≡ nat_eq (b / m) (x / m)
    low Less e = high (omega (arith, ranked b x Less (sym e))) (nat_cmp (b + (m - 1)) x) refl
    low Equal e = high (omega (arith, ranked b x Equal (sym e))) (nat_cmp (b + (m - 1)) x) refl
    low Greater e = sym (less_front b x m cleared (ranked b x Greater (sym e)))

block : (f g : Family) (b x len : ℕ) → len ≤ width_of f → b % 2 ^ host_len f len ≡ 0
    → (is_le (ordering_then (family_cmp f g) (nat_cmp b x)) && not (is_lt (ordering_then (family_cmp f g) (nat_cmp (b + (2 ^ host_len f len - 1)) x))))
    ≡ ((same_family f g && nat_le len (width_of g)) && nat_eq (first_bits f len b) (first_bits f len x))
block V4 V4 b x len fits cleared = in_block b x (2 ^ host_len V4 len) (pow_pos (host_len V4 len)) cleared ∙ ap (λ t. t && nat_eq (first_bits V4 len b) (first_bits V4 len x)) (sym (le-leb len 32 fits))
block V4 V6 b x len fits cleared = refl
block V6 V4 b x len fits cleared = refl
block V6 V6 b x len fits cleared = in_block b x (2 ^ host_len V6 len) (pow_pos (host_len V6 len)) cleared ∙ ap (λ t. t && nat_eq (first_bits V6 len b) (first_bits V6 len x)) (sym (le-leb len 128 fits))

pub below_is : (p : Prefix) (last a : Addr) → last.family ≡ p.family → last.bits ≡ p.bits + (2 ^ host_len p.family p.len - 1)
    → range_contains addr_cmp (Included (prefix_addr p)) (Included last) a ≡ covers p (host_of a)
unfolding covers
below_is p last a family bits =
    ap (λ r. is_le (addr_cmp (prefix_addr p) a) && not (is_lt r)) (λ i. ordering_then (family_cmp (family i) a.family) (nat_cmp (bits i) a.bits))
    ∙ block p.family a.family p.bits a.bits p.len p.within p.host_bits_zero
    ∙ (λ i. (same_family p.family a.family && nat_le p.len (sym (host_width a) i)) && nat_eq (first_bits p.family p.len p.bits) (first_bits p.family p.len (sym (host_bits a) i)))

-- the last number of a block fits where the block does
pub last_fits : (w len b : ℕ) → len ≤ w → b < 2 ^ w → b % 2 ^ (w - len) ≡ 0 → b + (2 ^ (w - len) - 1) < 2 ^ w
last_fits w len b within fits cleared =
    let m : ℕ = 2 ^ (w - len) in
    let k : ℕ = 2 ^ len in
    let sum : len + (w - len) ≡ w = omega arith in
    let all : k * m ≡ 2 ^ w = sym (pow-add 2 len (w - len)) ∙ ap (λ n. 2 ^ n) sum in
    let whole : b / m * m ≡ b = omega (arith, div-add-mod' b m) in
    let below : b / m < k = elim (cases_lt (b / m) k) [
      | inl h ↦ h
      | inr h ↦ absurd (omega (arith, mul-le-mul_right m h, whole, all))
    ] in
    let next : (b / m + 1) * m ≤ k * m = mul-le-mul_right m (omega (arith, below)) in
    let spread : (b / m + 1) * m ≡ b / m * m + m = add_one-mul (b / m) m in
    omega (arith, next, spread, whole, all, pow_pos (w - len))

pub wide : (f : Family) (n : ℕ) → n < 2 ^ width_of f → n < 2 ^ 128
wide V4 n h = let most : 2 ^ 32 < 2 ^ 128 = lit< tt in omega (arith, most)
wide V6 n h = h
