-- Prefixes in order: what covers a later one covers those between.
use Rattle.std.proofs.Common.{◌≡◌, ℕ, ◌+◌, ◌-◌, ◌*◌, ◌/◌, ◌%◌, ◌^◌, ◌<◌, ◌≤◌, Bool, true, false, ◌&&◌, ◌||◌, ◌==◌, refl, sym, ap, ◌∙◌, subst, arith, eq-eqb, lt-ltb, le-leb, ltb-true, leb-true, true≢false, inl, inr}
use Rattle.std.specs.Prelude.{◌⊎◌}
use Rattle.std.proofs.lemmas.Bool.{and_parts, and_from, cases_lt, cases_eq}
use Rattle.std.proofs.lemmas.Bool.Decides.{Decides-eqb}
use Rattle.std.proofs.lemmas.Nat.{pow-add, pow_pos, div-add-mod', le-div}
use Rattle.std.proofs.Math.Nat.{div-mul-le_self, mul-div_right}
use Rattle.lane_scan.specs.declared.columns.Slot.{Slot}
use Rattle.lane_scan.specs.Slots.{covers_slot}
use Rattle.roa_check.specs.Index.{comes_before, IsWhole}

-- the test of covering as a fact
pub record Covers (outer inner : Slot) : Type 0 where
  pub not_longer : outer.len ≤ inner.len
  pub same_front : outer.bits / 2 ^ (128 - outer.len) ≡ inner.bits / 2 ^ (128 - outer.len)

pub covers_from : (outer inner : Slot) → covers_slot outer inner ≡ true → Covers outer inner
unfolding covers_slot
covers_from outer inner e =
    let (len, front) = and_parts _ _ e in
    record { not_longer = leb-true _ _ len; same_front = (Decides-eqb _ _).0 front }

pub covers_to : (outer inner : Slot) → Covers outer inner → covers_slot outer inner ≡ true
unfolding covers_slot
covers_to outer inner h = and_from _ _ (le-leb _ _ h.not_longer) (eq-eqb _ _ h.same_front)

-- the order as a fact
abbrev pub Before : Slot → Slot → Type 0
Before one other = (one.bits < other.bits) ⊎ ((one.bits ≡ other.bits) × (one.len ≤ other.len))

or_true : (a b : Bool) → (a || b) ≡ true → (a ≡ true) ⊎ (b ≡ true)
or_true true b e = inl refl
or_true false b e = inr e

or_left : (a b : Bool) → a ≡ true → (a || b) ≡ true
or_left a b e = ap (λ x. x || b) e

or_right : (a b : Bool) → b ≡ true → (a || b) ≡ true
or_right true b e = refl
or_right false b e = e

pub before_from : (one other : Slot) → comes_before one other ≡ true → Before one other
before_from one other e =
    elim (or_true _ _ e) [
      | inl less ↦ inl (ltb-true _ _ less)
      | inr rest ↦ (let (bits, len) = and_parts _ _ rest in inr ((Decides-eqb _ _).0 bits, leb-true _ _ len))
    ]

pub before_to : (one other : Slot) → Before one other → comes_before one other ≡ true
before_to one other (inl less) = or_left _ _ (lt-ltb _ _ less)
before_to one other (inr same) = or_right _ _ (and_from _ _ (eq-eqb _ _ same.0) (le-leb _ _ same.1))

pub before_same : (one : Slot) → comes_before one one ≡ true
before_same one = before_to one one (inr (refl, omega arith))

pub not_after : (one other : Slot) → Before one other → one.bits ≤ other.bits
not_after one other (inl less) = omega arith
not_after one other (inr same) = omega (arith, same.0)

before_all : (a b c : Slot) → Before a b → Before b c → Before a c
before_all a b c (inl h) k = inl (omega (arith, not_after b c k))
before_all a b c (inr h) (inl k) = inl (omega (arith, h.0))
before_all a b c (inr h) (inr k) = inr (h.0 ∙ k.0, omega (arith, h.1, k.1))

pub before_trans : (a b c : Slot) → comes_before a b ≡ true → comes_before b c ≡ true → comes_before a c ≡ true
before_trans a b c h k = before_to a c (before_all a b c (before_from a b h) (before_from b c k))

same_fields : (a b : Slot) → a.bits ≡ b.bits → a.len ≡ b.len → a ≡ b
same_fields a b p q = λ i. record { bits = p i; len = q i }

both_before : (a b : Slot) → Before a b → Before b a → a ≡ b
both_before a b (inl h) k = absurd (omega (arith, not_after b a k))
both_before a b (inr h) (inl k) = absurd (omega (arith, h.0))
both_before a b (inr h) (inr k) = same_fields a b h.0 (omega (arith, h.1, k.1))

pub before_antisym : (a b : Slot) → comes_before a b ≡ true → comes_before b a ≡ true → a ≡ b
before_antisym a b h k = both_before a b (before_from a b h) (before_from b a k)

-- ---- whole prefixes

-- a multiple of a power is one of each lower power
multiple_of : (n s t : ℕ) → 0 < s → n % (s * t) ≡ 0 → n / s * s ≡ n
multiple_of n s t positive e =
    let q = n / (s * t) in
    let whole : n ≡ q * (s * t) = omega (arith, div-add-mod' n (s * t)) in
    let turned : n ≡ s * (t * q) = whole ∙ omega arith in
    let quotient : n / s ≡ t * q = ap (λ m. m / s) turned ∙ mul-div_right (t * q) positive in
    ap (λ m. m * s) quotient ∙ (omega arith ∙ sym turned)

whole_is : (one : Slot) → IsWhole one → one.bits / 2 ^ (128 - one.len) * 2 ^ (128 - one.len) ≡ one.bits
whole_is one h =
    let zero_bits : one.bits % 2 ^ (128 - one.len) ≡ 0 = h.host_bits_zero in
    omega (arith, div-add-mod' one.bits (2 ^ (128 - one.len)))

-- a shorter prefix has its host bits zero too
shorter_whole : (one : Slot) (len : ℕ) → IsWhole one → one.len ≤ len → len ≤ 128 → one.bits / 2 ^ (128 - len) * 2 ^ (128 - len) ≡ one.bits
shorter_whole one len h k most =
    let parts : (128 - len) + (len - one.len) ≡ 128 - one.len = omega (arith, h.short) in
    let split : 2 ^ (128 - one.len) ≡ 2 ^ (128 - len) * 2 ^ (len - one.len) = ap (λ n. 2 ^ n) (sym parts) ∙ pow-add 2 (128 - len) (len - one.len) in
    multiple_of one.bits (2 ^ (128 - len)) (2 ^ (len - one.len)) (pow_pos (128 - len)) (ap (λ m. one.bits % m) (sym split) ∙ h.host_bits_zero)

-- what covers a later prefix comes before it
pub covering_before : (one slot : Slot) → IsWhole one → covers_slot one slot ≡ true → comes_before one slot ≡ true
covering_before one slot h e =
    let covering = covers_from one slot e in
    let size = 2 ^ (128 - one.len) in
    let mine : one.bits / size * size ≡ one.bits = whole_is one h in
    let other : slot.bits / size * size ≤ slot.bits = div-mul-le_self slot.bits size in
    let front : one.bits / size * size ≡ slot.bits / size * size = ap (λ n. n * size) covering.same_front in
    let not_longer : one.len ≤ slot.len = covering.not_longer in
    before_to one slot (elim (cases_lt one.bits slot.bits) [ inl less ↦ inl less | inr rest ↦ inr (omega arith, not_longer) ])

div_rises : (m n size : ℕ) → 0 < size → m ≤ n → m / size ≤ n / size
div_rises m n size positive h = le-div (m / size) n size positive (omega (arith, div-mul-le_self m size))

-- what covers a later prefix covers one between
pub nested : (one between slot : Slot) → IsWhole one → IsWhole between → comes_before one between ≡ true → between.bits ≤ slot.bits → covers_slot one slot ≡ true → covers_slot one between ≡ true
nested one between slot h k order behind e =
    let covering = covers_from one slot e in
    let size = 2 ^ (128 - one.len) in
    let first : one.bits ≤ between.bits = not_after one between (before_from one between order) in
    let low : one.bits / size ≤ between.bits / size = div_rises one.bits between.bits size (pow_pos (128 - one.len)) first in
    let high : between.bits / size ≤ slot.bits / size = div_rises between.bits slot.bits size (pow_pos (128 - one.len)) behind in
    let front : one.bits / size ≡ slot.bits / size = covering.same_front in
    let same : one.bits / size ≡ between.bits / size = omega arith in
    covers_to one between (record { not_longer = longer first same (before_from one between order); same_front = same })
  where
    longer : one.bits ≤ between.bits → one.bits / 2 ^ (128 - one.len) ≡ between.bits / 2 ^ (128 - one.len) → Before one between → one.len ≤ between.len
    longer first same (inr equal) = equal.1
    longer first same (inl less) =
        elim (cases_lt between.len one.len) [
          | inl shorter ↦ (
              let mine = whole_is one h in
              let other = shorter_whole between one.len k (omega arith) h.short in
              let front = ap (λ n. n * 2 ^ (128 - one.len)) same in
              let equal : one.bits ≡ between.bits = sym mine ∙ (front ∙ other) in
              absurd (omega arith)
              )
          | inr rest ↦ rest
        ]
