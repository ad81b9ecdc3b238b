-- A prefix and its slot: host bits, covering, and the order in which authorizations are sorted.
use Rattle.std.proofs.Common.{◌≡◌, ℕ, zero, suc, ◌+◌, ◌-◌, ◌*◌, ◌/◌, ◌%◌, ◌^◌, ◌<◌, ◌≤◌, Bool, true, false, cond, List, [], ◌∷◌, get_or, refl, sym, ap, ◌∙◌, subst, arith, rules, eq-eqb, eqb-true, lt-ltb, le-leb, leb-true, ltb-true, true≢false, inl, inr}
use Rattle.std.specs.Prelude.{◌⊎◌, map, filter, take, Option, Some, None, slice_get, nat_lt, ◌==◌, if◌then◌else◌}
use Rattle.std.specs.List.{All}
use Rattle.std.specs.Ordering.{is_lt, nat_cmp, ordering_then}
use Rattle.std.specs.List.Sorted.{IsSorted, IsSortedBy}
use Rattle.std.specs.declared.cmp.Ordering.{Ordering}
use Rattle.std.specs.declared.cmp.Ordering.TheVariants.{Less, Equal, Greater}
use Rattle.std.proofs.lemmas.Bool.{cases_lt, cases_eq, and_parts, and_from}
use Rattle.std.proofs.lemmas.Bool.Decides.{Decides-eqb}
use Rattle.std.proofs.lemmas.Nat.{pow-add, pow_pos, div-add-mod', mod-mul-add}
use Rattle.std.proofs.lemmas.Option.{get_or_from_slice_get, same_Some, slice_get_within, slice_get-get_or}
use Rattle.std.proofs.lemmas.List.Elements.{All-get_or}
use Rattle.std.proofs.Math.Nat.{mul-div-mul_right, mul-lt-mul_of_pos_right}
use Rattle.net_base.specs.declared.addr.Family.{Family}
use Rattle.net_base.specs.declared.addr.Family.TheVariants.{V4, V6}
use Rattle.net_base.specs.declared.prefix.Prefix.{Prefix}
use Rattle.net_base.specs.declared.roa.Roa.{Roa}
use Rattle.net_base.specs.contracts.roa.RoaOrd.TheImpl.{cmp-value as derived_roa}
use Rattle.net_base.specs.Roa.{matches}
use Rattle.net_base.specs.Order.{same_family, family_cmp, prefix_cmp}
use Rattle.net_base.specs.Width.{width_of}
use Rattle.net_base.specs.Prefix.{Covers, covers}
use Rattle.net_base.proofs.Covering.{covers_Decides, same_family_Decides}
use Rattle.lane_scan.specs.declared.columns.Slot.{Slot}
use Rattle.lane_scan.specs.Slots.{covers_slot}
use Rattle.roa_check.specs.Index.{comes_before, IsWhole, IsAscending}
use Rattle.roa_check.specs.Table.{slot_of, roa_slot, is_of_family}
use Rattle.roa_check.proofs.Nesting.{Before, before_to, before_same, before_trans, covers_to}

-- ---- the host bits

width_most : (family : Family) → width_of family ≤ 128
width_most V4 = omega arith
width_most V6 = omega arith

-- a length behind the bits that a prefix is moved up by
split_host : (family : Family) (len : ℕ) → len ≤ width_of family → 2 ^ (128 - len) ≡ 2 ^ (width_of family - len) * 2 ^ (128 - width_of family)
split_host family len h =
    let parts : (width_of family - len) + (128 - width_of family) ≡ 128 - len = omega (arith, width_most family) in
    ap (λ n. 2 ^ n) (sym parts) ∙ pow-add 2 (width_of family - len) (128 - width_of family)

pub slot_whole : (p : Prefix) → IsWhole (slot_of p)
slot_whole p =
    let within : p.len ≤ width_of p.family = p.within in
    let host = 2 ^ (width_of p.family - p.len) in
    let up = 2 ^ (128 - width_of p.family) in
    let zero_bits : p.bits % host ≡ 0 = p.host_bits_zero in
    let bits : p.bits ≡ p.bits / host * host = omega (arith, div-add-mod' p.bits host) in
    let moved : p.bits * up ≡ p.bits / host * (host * up) + 0 = ap (λ n. n * up) bits ∙ omega arith in
    let positive : 0 < host * up = subst (λ n. 0 < n) (split_host p.family p.len within) (pow_pos (128 - p.len)) in
    record {
      short = omega (arith, width_most p.family);
      host_bits_zero = ap (λ n. p.bits * up % n) (split_host p.family p.len within) ∙ (ap (λ n. n % (host * up)) moved ∙ mod-mul-add (p.bits / host) (host * up) 0 positive);
    }

-- ---- covering

front_moved : (family : Family) (len bits : ℕ) → len ≤ width_of family → bits * 2 ^ (128 - width_of family) / 2 ^ (128 - len) ≡ bits / 2 ^ (width_of family - len)
front_moved family len bits h =
    ap (λ n. bits * 2 ^ (128 - width_of family) / n) (split_host family len h) ∙ mul-div-mul_right bits (2 ^ (width_of family - len)) (pow_pos (128 - width_of family))

covers_moved : (p q : Prefix) → Covers p q → covers_slot (slot_of p) (slot_of q) ≡ true
covers_moved p q h =
    let within : p.len ≤ width_of p.family = p.within in
    let same : p.family ≡ q.family = h.same_family in
    covers_to (slot_of p) (slot_of q) (record {
      not_longer = h.not_longer;
      same_front = front_moved p.family p.len p.bits within ∙ (h.same_front
          ∙ (sym (front_moved p.family p.len q.bits within) ∙ ap (λ (f : Family). q.bits * 2 ^ (128 - width_of f) / 2 ^ (128 - p.len)) same));
    })

pub covers_slots : (p q : Prefix) → covers p q ≡ true → covers_slot (slot_of p) (slot_of q) ≡ true
covers_slots p q e = covers_moved p q ((covers_Decides p q).0 e)

pub covers_family : (p q : Prefix) → covers p q ≡ true → same_family p.family q.family ≡ true
covers_family p q e = (same_family_Decides p.family q.family).1 ((covers_Decides p q).0 e).same_family

-- ---- the order

pub then_not_less : (a b : Ordering) → is_lt (ordering_then a b) ≡ false → (is_lt a ≡ false) × (a ≡ Equal → is_lt b ≡ false)
then_not_less Less b e = absurd (true≢false e)
then_not_less Equal b e = (refl, λ _. e)
then_not_less Greater b e = (refl, λ same. absurd cc)

nat_not_less : (m n : ℕ) → is_lt (nat_cmp m n) ≡ false → (n < m) ⊎ ((m ≡ n) × (nat_cmp m n ≡ Equal))
nat_not_less m n e =
    elim (cases_lt m n) [
      | inl less ↦ absurd (true≢false (sym (ap (λ b. is_lt (cond b Less (cond (m == n) Equal Greater))) (lt-ltb m n less)) ∙ e))
      | inr rest ↦ (
          elim (cases_eq m n) [
            | inl same ↦ inr (same, ap (λ b. cond b Less (cond (m == n) Equal Greater)) (not_below m n rest) ∙ ap (λ b. cond b Equal Greater) (eq-eqb m n same))
            | inr other ↦ inl (omega arith)
          ]
          )
    ]
  where
    below_or : (m n : ℕ) (b : Bool) → nat_lt m n ≡ b → n ≤ m → b ≡ false
    below_or m n true f h = absurd (omega (arith, ltb-true m n f))
    below_or m n false f h = refl

    not_below : (m n : ℕ) → n ≤ m → nat_lt m n ≡ false
    not_below m n h = below_or m n (nat_lt m n) refl h

same_order : (f g : Family) → f ≡ g → family_cmp f g ≡ Equal
same_order V4 V4 e = refl
same_order V4 V6 e = absurd (true≢false (sym ((same_family_Decides V4 V6).1 e)))
same_order V6 V4 e = absurd (true≢false (sym ((same_family_Decides V6 V4).1 e)))
same_order V6 V6 e = refl

roa_parts : (a b : Roa) → derived_roa.it a b ≡ ordering_then (prefix_cmp a.prefix b.prefix) (ordering_then (nat_cmp a.maxlen b.maxlen) (nat_cmp a.source b.source))
roa_parts a b = search rules

-- prefixes of one family that are sorted go by their slots
pub prefixes_before : (p q : Prefix) → p.family ≡ q.family → is_lt (prefix_cmp q p) ≡ false → comes_before (slot_of p) (slot_of q) ≡ true
prefixes_before p q family e =
    let rest = (then_not_less _ _ e).1 (same_order q.family p.family (sym family)) in
    let up = 2 ^ (128 - width_of p.family) in
    let moved : q.bits * up ≡ q.bits * 2 ^ (128 - width_of q.family) = ap (λ (f : Family). q.bits * 2 ^ (128 - width_of f)) family in
    before_to (slot_of p) (slot_of q) (elim (nat_not_less q.bits p.bits (then_not_less _ _ rest).0) [
      | inl less ↦ inl (subst (λ n. p.bits * up < n) moved (mul-lt-mul_of_pos_right {k = up} less (pow_pos (128 - width_of p.family))))
      | inr same ↦ inr (ap (λ n. n * up) (sym same.0) ∙ moved, lengths ((then_not_less _ _ rest).1 same.1))
    ])
  where
    lengths : is_lt (nat_cmp q.len p.len) ≡ false → p.len ≤ q.len
    lengths h = elim (nat_not_less q.len p.len h) [ inl less ↦ omega arith | inr same ↦ omega (arith, same.0) ]

roas_before : (x y : Roa) → x.prefix.family ≡ y.prefix.family → is_lt (derived_roa.it y x) ≡ false → comes_before (roa_slot x) (roa_slot y) ≡ true
roas_before x y family e = prefixes_before x.prefix y.prefix family (then_not_less _ _ (sym (ap is_lt (roa_parts y x)) ∙ e)).0

-- ---- a sorted list

map_at : {X : Type 0} (slot : X → Slot) (xs : List X) (i : ℕ) (one : Slot) → slice_get (map slot xs) i ≡ Some one → (x : X) × (slice_get xs i ≡ Some x) × (slot x ≡ one)
map_at slot [] i one e = absurd cc
map_at slot (x ∷ xs) zero one e = (x, refl, same_Some (slot x) one e)
map_at slot (x ∷ xs) (suc i) one e = map_at slot xs i one e

pub all_at : {X : Type 0} (P : X → Type 0) (xs : List X) (i : ℕ) (x : X) → All P xs → slice_get xs i ≡ Some x → P x
all_at P xs i x all e = subst P (get_or_from_slice_get xs i x x e) (All-get_or P xs i x (slice_get_within xs i x e) all)

module _ {X : Type 0} (slot : X → Slot) (lt : X → X → Bool) (P : X → Type 0) (order : (x y : X) → P x → P y → lt y x ≡ false → comes_before (slot x) (slot y) ≡ true) where
  next_before : (xs : List X) → All P xs → IsSortedBy lt xs → (i : ℕ) (x y : X) → slice_get xs i ≡ Some x → slice_get xs (i + 1) ≡ Some y → comes_before (slot x) (slot y) ≡ true
  next_before xs all sorted i x y here there =
      let within = slice_get_within xs (i + 1) y there in
      let falls = sorted i x (omega arith) within in
      order x y (all_at P xs i x all here) (all_at P xs (i + 1) y all there)
      ((λ k. lt (sym (get_or_from_slice_get xs (i + 1) y x there) k) (sym (get_or_from_slice_get xs i x x here) k)) ∙ falls)

  later_before : (xs : List X) → All P xs → IsSortedBy lt xs → (n i : ℕ) (x y : X) → slice_get xs i ≡ Some x → slice_get xs (i + n) ≡ Some y → comes_before (slot x) (slot y) ≡ true
  later_before xs all sorted zero i x y here there =
      let at : i + 0 ≡ i = omega arith in
      let same = same_Some x y (sym here ∙ (ap (slice_get xs) (sym at) ∙ there)) in
      subst (λ (z : X). comes_before (slot x) (slot z) ≡ true) same (before_same (slot x))
  later_before xs all sorted (suc n) i x y here there =
      let at : i + suc n ≡ i + n + 1 = omega arith in
      let next = ap (slice_get xs) (sym at) ∙ there in
      let within = slice_get_within xs (i + n + 1) y next in
      let middle = slice_get-get_or xs (i + n) x (omega arith) in
      before_trans (slot x) (slot (get_or xs (i + n) x)) (slot y) (later_before xs all sorted n i x (get_or xs (i + n) x) here middle) (next_before xs all sorted (i + n) (get_or xs (i + n) x) y middle next)

  pub ascending : (xs : List X) → All P xs → IsSortedBy lt xs → IsAscending (map slot xs)
  ascending xs all sorted i j one other from here there =
      let (x, x_at, x_is) = map_at slot xs i one here in
      let (y, y_at, y_is) = map_at slot xs j other there in
      let at : i + (j - i) ≡ j = omega arith in
      (λ k. comes_before (sym x_is k) (sym y_is k)) ∙ later_before xs all sorted (j - i) i x y x_at (ap (slice_get xs) at ∙ y_at)

pub roas_ascending : (family : Family) (roas : List Roa) → All (λ roa. roa.prefix.family ≡ family) roas → IsSorted derived_roa.it roas → IsAscending (map roa_slot roas)
roas_ascending family roas all sorted =
    ascending roa_slot (λ x y. is_lt (derived_roa.it x y)) (λ roa. roa.prefix.family ≡ family) (λ x y p q e. roas_before x y (p ∙ sym q) e) roas all sorted

-- ---- lists of authorizations

pub match_covers : (prefix : Prefix) (origin : Option ℕ) (roa : Roa) → matches prefix origin roa ≡ true → covers_slot (roa_slot roa) (slot_of prefix) ≡ true
match_covers prefix origin roa e = covers_slots roa.prefix prefix (and_parts _ _ (and_parts _ _ e).0).0

pub match_family : (prefix : Prefix) (origin : Option ℕ) (roa : Roa) → matches prefix origin roa ≡ true → same_family roa.prefix.family prefix.family ≡ true
match_family prefix origin roa e = covers_family roa.prefix prefix (and_parts _ _ (and_parts _ _ e).0).0

-- a filter keeps what passes
passes_at : {X : Type 0} (test : X → Bool) (xs : List X) (k : ℕ) (x : X) → slice_get (filter test xs) k ≡ Some x → test x ≡ true
passes_at test [] k x e = absurd cc
passes_at test (y ∷ xs) k x e = decided (passes_at test xs) (test y) refl k (ap (λ b. slice_get (if b then y ∷ filter test xs else filter test xs) k) refl ∙ e)
  where
    decided : ((k : ℕ) (z : _) → slice_get (filter test xs) k ≡ Some z → test z ≡ true) → (b : Bool) → test y ≡ b → (k : ℕ) → slice_get (if b then y ∷ filter test xs else filter test xs) k ≡ Some x → test x ≡ true
    decided rest true here zero h = ap test (sym (same_Some y x h)) ∙ here
    decided rest true here (suc k) h = rest k x h
    decided rest false here k h = rest k x h

pub all_pass : {X : Type 0} (test : X → Bool) (xs : List X) → All (λ x. test x ≡ true) (filter test xs)
all_pass test xs = λ k d within. passes_at test xs k _ (slice_get-get_or (filter test xs) k d within)

pub in_front : {X Y : Type 0} (f : X → Y) (xs : List X) (n k : ℕ) (y : Y) → slice_get (map f (take n xs)) k ≡ Some y → (k < n) × (slice_get (map f xs) k ≡ Some y)
in_front f [] zero k y e = absurd cc
in_front f [] (suc n) k y e = absurd cc
in_front f (x ∷ xs) zero k y e = absurd cc
in_front f (x ∷ xs) (suc n) zero y e = (omega arith, e)
in_front f (x ∷ xs) (suc n) (suc k) y e = let (within, there) = in_front f xs n k y e in (omega arith, there)

pub family_all : (family : Family) (roas : List Roa) → All (λ roa. is_of_family family roa ≡ true) roas → All (λ roa. roa.prefix.family ≡ family) roas
family_all family roas all = λ k d within. (same_family_Decides _ family).0 (all k d within)
