-- The prefixes that cover an address are its prefixes of each length.
use Rattle.std.proofs.Common.{◌≡◌, ℕ, ◌+◌, ◌-◌, ◌%◌, ◌/◌, ◌^◌, ◌<◌, ◌≤◌, ◌⊎◌, Bool, true, false, not, ◌&&◌, ◌||◌, min, List, [], ◌∷◌, nat_lt, nat_eq, refl, sym, ap, subst, ◌∙◌, inl, inr, arith, eq-eqb, true≢false}
use Rattle.std.proofs.lemmas.Bool.{and_parts, and_from, eqb-true, false_from_ne_true}
use Rattle.std.proofs.lemmas.Nat.{pow_pos}
use Rattle.std.proofs.Math.Nat.{mod-lt, eq-or-lt_of_le}
use Rattle.std.specs.Cmp.{eq_by_cmp_equiv}
use Rattle.std.specs.List.{list_any}
use Rattle.std.specs.Ordering.{eq_by_cmp}
use Rattle.net_base.specs.declared.addr.Addr.{Addr}
use Rattle.net_base.specs.declared.prefix.Prefix.{Prefix}
use Rattle.net_base.specs.Bits.{prefix_of, host_len, first_bits, without_low, without_low-mod}
use Rattle.net_base.specs.Order.{prefix_cmp}
use Rattle.net_base.specs.Prefix.{Covers, covers}
use Rattle.net_base.specs.PrefixSet.{is_in}
use Rattle.net_base.specs.Width.{width_of}
use Rattle.net_base.proofs.Covering.{covers_Decides, same_front_is}
use Rattle.net_base.proofs.Equal.{same_prefix}
use Rattle.net_base.proofs.Order.{prefix_cmp-total, prefix_cmp-Equal}
use Rattle.nexthop_track.specs.Hops.{host_of, makes_valid}

whole : (n k : ℕ) → k ≡ 0 → without_low k n ≡ n
whole n k e =
    let one : 2 ^ k ≡ 1 = ap (λ j. 2 ^ j) e in
    omega (arith, mod-lt n (pow_pos k), one)

-- the bits of an address are those of its prefix of full length
pub host_bits : (a : Addr) → (host_of a).bits ≡ a.bits
host_bits a = whole a.bits (host_len a.family (min (width_of a.family) (width_of a.family))) (omega arith)

pub host_width : (a : Addr) → (host_of a).len ≡ width_of a.family
host_width a = omega arith

pub prefix_of-covers : (a : Addr) (len : ℕ) → covers (prefix_of a len) (host_of a) ≡ true
prefix_of-covers a len =
    let kept : ℕ = min len (width_of a.family) in
    let h : ℕ = host_len a.family kept in
    let bits : ℕ = without_low h a.bits in
    let front : bits / 2 ^ h ≡ a.bits / 2 ^ h = (same_front_is bits a.bits h (without_low-mod a.bits h)).0 (eq-eqb bits bits refl) in
    (covers_Decides (prefix_of a len) (host_of a)).1 (record {
      same_family = refl;
      not_longer = omega arith;
      same_front = front ∙ ap (λ n. n / 2 ^ h) (sym (host_bits a));
    })

kept_len : (n w : ℕ) → n ≤ w → n ≡ min n w
kept_len n w h = omega arith

pub covers-prefix_of : (p : Prefix) (a : Addr) → covers p (host_of a) ≡ true → p ≡ prefix_of a p.len
covers-prefix_of p a c =
    let h = (covers_Decides p (host_of a)).0 c in
    let width : width_of p.family ≡ width_of a.family = ap width_of h.same_family in
    let within : p.len ≤ width_of a.family = subst (λ (w : ℕ). p.len ≤ w) width p.within in
    let len : p.len ≡ min p.len (width_of a.family) = kept_len p.len (width_of a.family) within in
    let low : host_len p.family p.len ≡ host_len a.family (min p.len (width_of a.family)) = (λ i. width i - len i) in
    let front : p.bits / 2 ^ host_len p.family p.len ≡ a.bits / 2 ^ host_len p.family p.len = h.same_front ∙ ap (λ n. n / 2 ^ host_len p.family p.len) (host_bits a) in
    let bits : p.bits ≡ without_low (host_len p.family p.len) a.bits = eqb-true _ _ ((same_front_is p.bits a.bits (host_len p.family p.len) p.host_bits_zero).1 front) in
    same_prefix p (prefix_of a p.len) h.same_family (bits ∙ ap (λ k. without_low k a.bits) low) len

-- ---- tests over the prefixes of a set

behind : (a b : Bool) → b ≡ true → (a || b) ≡ true
behind true b h = refl
behind false b h = h

abbrev pub Had : (Prefix → Bool) → List Prefix → Type 0
Had test ps = (p : Prefix) × ((is_in ps p ≡ true) × (test p ≡ true))

had_more : (test : Prefix → Bool) (x : Prefix) (xs : List Prefix) → Had test xs → Had test (x ∷ xs)
had_more test x xs (p, found) = (p, (behind (eq_by_cmp prefix_cmp p x) (is_in xs p) found.0, found.1))

pub any_has : (test : Prefix → Bool) (ps : List Prefix) → list_any test ps ≡ true → Had test ps
any_has test [] h = absurd (true≢false (sym h))
any_has test (x ∷ xs) h =
    let more : list_any test xs ≡ true → Had test xs = any_has test xs in
    elim (test x) as (λ b. test x ≡ b → (b || list_any test xs) ≡ true → Had test (x ∷ xs)) [
      | true ↦ λ e _. (x, (ap (λ b. b || is_in xs x) ((eq_by_cmp_equiv prefix_cmp-total).refl x), e))
      | false ↦ λ e k. had_more test x xs (more k)
    ] refl h

pub has_any : (test : Prefix → Bool) (ps : List Prefix) (p : Prefix) → is_in ps p ≡ true → test p ≡ true → list_any test ps ≡ true
has_any test [] p h t = absurd (true≢false (sym h))
has_any test (x ∷ xs) p h t =
    let more : is_in xs p ≡ true → list_any test xs ≡ true = λ k. has_any test xs p k t in
    elim (eq_by_cmp prefix_cmp p x) as (λ b. eq_by_cmp prefix_cmp p x ≡ b → (b || is_in xs p) ≡ true → list_any test (x ∷ xs) ≡ true) [
      | true ↦ λ e _. ap (λ b. b || list_any test xs) (ap test (sym (prefix_cmp-Equal p x e)) ∙ t)
      | false ↦ λ e k. behind (test x) (list_any test xs) (more k)
    ] refl h

pub same_bool : (a b : Bool) → (a ≡ true → b ≡ true) → (b ≡ true → a ≡ true) → a ≡ b
same_bool true b h k = sym (h refl)
same_bool false true h k = absurd (true≢false (sym (k refl)))
same_bool false false h k = refl

-- where no prefix of the address counts and is in the set, none that covers it does
pub none_reaches : (ps : List Prefix) (other : Prefix → Bool) (default : Bool) (a : Addr)
    → ((k : ℕ) → k < width_of a.family + 1 → ((other (prefix_of a k) && (default || nat_lt 0 (prefix_of a k).len)) && is_in ps (prefix_of a k)) ≡ false)
    → list_any (λ p. other p && makes_valid default a p) ps ≡ false
none_reaches ps other default a none = false_from_ne_true _ (λ h. clash (any_has _ ps h))
  where
    clash : ((p : Prefix) × ((is_in ps p ≡ true) × ((other p && makes_valid default a p) ≡ true))) → ⊥
    clash (p, found) =
        let (here, valid) = and_parts (other p) (makes_valid default a p) found.1 in
        let (covered, long) = and_parts (covers p (host_of a)) (default || nat_lt 0 p.len) valid in
        let is = covers-prefix_of p a covered in
        let Used : Prefix → Type 0 = λ q. ((other q && (default || nat_lt 0 q.len)) && is_in ps q) ≡ true in
        let used : Used (prefix_of a p.len) = subst Used is (and_from _ _ (and_from _ _ here long) found.0) in
        let width : width_of p.family ≡ width_of a.family = ap (λ (q : Prefix). width_of q.family) is in
        true≢false (sym used ∙ none p.len (omega (arith, p.within, width)))

-- a prefix of the address that counts and is in the set reaches it
pub reaches : (ps : List Prefix) (other : Prefix → Bool) (default : Bool) (a : Addr) (k : ℕ) (p : Prefix) → p ≡ prefix_of a k
    → ((other p && (default || nat_lt 0 p.len)) && is_in ps p) ≡ true
    → list_any (λ q. other q && makes_valid default a q) ps ≡ true
reaches ps other default a k p is h =
    let (used, here) = and_parts _ _ h in
    let (apart, long) = and_parts (other p) (default || nat_lt 0 p.len) used in
    let Covered : Prefix → Type 0 = λ q. covers q (host_of a) ≡ true in
    let covered : Covered p = subst Covered (sym is) (prefix_of-covers a k) in
    has_any (λ q. other q && makes_valid default a q) ps p here (and_from _ _ apart (and_from _ _ covered long))

-- what holds below a number and at it holds below the next
pub and_at : (P : ℕ → Type 0) (n : ℕ) → ((k : ℕ) → k < n → P k) → P n → (k : ℕ) → k < n + 1 → P k
and_at P n below at k h = elim (eq-or-lt_of_le {n = k} {m = n} (omega arith)) [
  | inl e ↦ subst P (sym e) at
  | inr lt ↦ below k lt
]
