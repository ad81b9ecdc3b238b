-- A group of slots in which none has the same front, and none is short, has none that covers.
use Rattle.std.proofs.Common.{◌≡◌, ℕ, ◌+◌, ◌-◌, ◌/◌, ◌^◌, ◌<◌, ◌≤◌, Bool, true, false, ◌||◌, ◌==◌, List, length, get_or, take, drop, refl, sym, ap, ◌∙◌, arith, eq-eqb, lt-ltb, inl, inr}
use Rattle.std.specs.Prelude.{nat_lt, ◌⊎◌}
use Rattle.std.specs.List.{list_any}
use Rattle.std.specs.Option.{option_map_or}
use Rattle.std.proofs.lemmas.Bool.{and_parts, cases_lt}
use Rattle.std.proofs.lemmas.Bool.Decides.{Decides-eqb}
use Rattle.std.proofs.lemmas.List.Folds.{list_any_at}
use Rattle.std.proofs.lemmas.Nat.{pow-add}
use Rattle.std.proofs.Math.Nat.{div-div-eq-div-mul}
use Rattle.std.proofs.lemmas.Option.{get_or_from_slice_get, slice_get-get_or}
use Rattle.std.proofs.lemmas.Simd.{get_or-chunk, length-chunk}
use lib.Lanes.{chunk}
use Rattle.lane_scan.specs.declared.columns.Slot.{Slot}
use Rattle.lane_scan.specs.Slots.{slots_of, whole_of, covers_slot}
use Rattle.lane_scan.specs.Covering.{covers_at}
use Rattle.lane_scan.proofs.Slots.{slot_at}

abbrev front : ℕ → ℕ
front bits = bits / 18446744073709551616 / 281474976710656

-- the first 16 bits are the first 16 of the first ones
front_is : (bits len : ℕ) → 16 ≤ len → front bits ≡ bits / 2 ^ (128 - len) / 2 ^ (112 - (128 - len))
front_is bits len h =
    let whole : (128 - len) + (112 - (128 - len)) ≡ 112 = omega arith in
    div-div-eq-div-mul bits 18446744073709551616 281474976710656
    ∙ (ap (λ n. bits / 2 ^ n) (sym whole)
    ∙ (ap (λ n. bits / n) (pow-add 2 (128 - len) (112 - (128 - len)))
    ∙ sym (div-div-eq-div-mul bits (2 ^ (128 - len)) (2 ^ (112 - (128 - len))))))

half_of_whole : (high low : ℕ) → whole_of high low / 18446744073709551616 ≡ high
half_of_whole high low = omega arith

short_or_front : (high low len : ℕ) (slot : Slot) → covers_slot (record { bits = whole_of high low; len = len }) slot ≡ true
    → (nat_lt len 16 ≡ true) ⊎ ((high / 281474976710656 == slot.bits / 18446744073709551616 / 281474976710656) ≡ true)
unfolding covers_slot
short_or_front high low len slot e =
    let (within, same) = and_parts _ _ e in
    let first = (Decides-eqb _ _).0 same in
    elim (cases_lt len 16) [
      | inl short ↦ inl (lt-ltb _ _ short)
      | inr long ↦ inr (eq-eqb _ _ (ap (λ n. n / 281474976710656) (sym (half_of_whole high low)) ∙ (front_is (whole_of high low) len long ∙ (ap (λ n. n / 2 ^ (112 - (128 - len))) first ∙ sym (front_is slot.bits len long)))))
    ]

any_in_group : {X : Type 0} (p : X → Bool) (xs : List X) (at k : ℕ) (d : X) → at + 8 ≤ length xs → at ≤ k → k < at + 8 → p (get_or xs k d) ≡ true → list_any p (take 8 (drop at xs)) ≡ true
any_in_group p xs at k d room from to here =
    let back : at + (k - at) ≡ k = omega arith in
    let is = get_or-chunk at 8 xs (k - at) d (omega arith) ∙ ap (λ i. get_or xs i d) back in
    list_any_at p (chunk at 8 xs) (k - at) d (omega (arith, length-chunk at 8 xs room)) (ap p is ∙ here)

same_default : (xs : List ℕ) (i : ℕ) → i < length xs → get_or xs i 0 ≡ get_or xs i (get_or xs i 0)
same_default xs i h = sym (get_or_from_slice_get xs i (get_or xs i 0) (get_or xs i 0) (slice_get-get_or xs i 0 h))

or-left : (a b : Bool) → a ≡ true → (a || b) ≡ true
or-left a b e = ap (λ x. x || b) e

or-right : (a b : Bool) → b ≡ true → (a || b) ≡ true
or-right true b e = refl
or-right false b e = e

pub covered_in_group : (highs lows lens : List ℕ) (slot : Slot) (at k : ℕ) → length lows ≡ length highs → length lens ≡ length highs → at + 8 ≤ length highs → at ≤ k → k < at + 8
    → covers_at (slots_of highs lows lens) slot k ≡ true
    → (list_any (λ other. other / 281474976710656 == slot.bits / 18446744073709551616 / 281474976710656) (take 8 (drop at highs)) || list_any (λ len. nat_lt len 16) (take 8 (drop at lens))) ≡ true
covered_in_group highs lows lens slot at k p q room from to covers =
    let here = slot_at highs lows lens k (get_or highs k 0) (get_or lows k 0) (get_or lens k 0) p q (omega arith) (same_default highs k (omega arith)) (same_default lows k (omega arith)) (same_default lens k (omega arith)) in
    let e = sym (ap (λ o. option_map_or (λ outer. covers_slot outer slot) o false) here) ∙ covers in
    elim (short_or_front (get_or highs k 0) (get_or lows k 0) (get_or lens k 0) slot e) [
      | inl short ↦ or-right _ _ (any_in_group (λ len. nat_lt len 16) lens at k 0 (omega arith) from to short)
      | inr same ↦ or-left _ _ (any_in_group (λ other. other / 281474976710656 == slot.bits / 18446744073709551616 / 281474976710656) highs at k 0 room from to same)
    ]
