-- The unknown attributes of a field stand by type, and their types are unknown.
use Rattle.std.proofs.Common.{◌≡◌, ℕ, zero, suc, ◌<◌, Bool, true, false, cond, List, [], ◌∷◌, ◌++◌, map, Option, Some, None, refl, sym, arith, append-nil}
use Rattle.std.specs.Prelude.{not, ◌&&◌, IfSome, bit_and, ◌==◌}
use Rattle.std.specs.List.{AllByRecursion}
use Rattle.std.specs.List.Sorted.{IsStrictlySortedBy}
use Rattle.std.specs.declared.cmp.Ordering.TheVariants.{Less}
use Rattle.std.specs.Ordering.{nat_cmp}
use Rattle.std.specs.Cmp.{nat_cmp_is}
use Rattle.std.proofs.lemmas.Bool.{eqb-true}
use Rattle.attr_model.specs.Valid.{is_known}
use Rattle.attr_codec.specs.Field.{Attribute, is_of, first_of}
use Rattle.attr_codec.specs.Unknown.{is_kept, kept_of, unknown_below, unknown_of}
use Rattle.attr_codec.proofs.Appends.{all_append}
use Rattle.attr_codec.proofs.Ascends.{none_sorted}
use Rattle.attr_codec.proofs.Gaps.{Entry, AreUnknown}

abbrev types : List Entry → List ℕ
types us = map (λ (u : Entry). u.0) us

-- in order, of unknown types below n
pub record AreBelow (n : ℕ) (us : List Entry) : Type 0 where
  pub sorted : IsStrictlySortedBy nat_cmp (types us)
  pub unknown : AreUnknown us
  pub below : AllByRecursion (λ (u : Entry). u.0 < n) us

first_type : (kind : ℕ) (attributes : List Attribute) → IfSome (first_of kind attributes) (λ a. a.kind ≡ kind)
first_type kind [] = tt
first_type kind (a ∷ rest) = by (is_of kind a) refl (first_type kind rest)
  where
    by : (b : Bool) → is_of kind a ≡ b → IfSome (first_of kind rest) (λ found. found.kind ≡ kind) → IfSome (cond b (Some a) (first_of kind rest)) (λ found. found.kind ≡ kind)
    by true e others = eqb-true a.kind kind e
    by false e others = others

-- one entry of this type or none
abbrev IsOne : ℕ → List Entry → Type 0
IsOne kind [] = Unit {0}
IsOne kind (u ∷ us) = (u.0 ≡ kind) × (is_known u.0 ≡ false) × (us ≡ [])

kept_type : (a : Attribute) → is_kept a ≡ true → is_known a.kind ≡ false
kept_type a e = by (is_known a.kind) refl e
  where
    by : (b : Bool) → is_known a.kind ≡ b → (not b && (bit_and a.flags 192 == 192)) ≡ true → is_known a.kind ≡ false
    by true known f = absurd cc
    by false known f = known

kept_one : (kind : ℕ) (found : Option Attribute) → IfSome found (λ a. a.kind ≡ kind) → IsOne kind (kept_of found)
kept_one kind None is = tt
kept_one kind (Some a) is = by (is_kept a) refl
  where
    by : (b : Bool) → is_kept a ≡ b → IsOne kind (cond b ((a.kind, a.value) ∷ []) [])
    by true e = (is, kept_type a e, refl)
    by false e = tt

less : (m n : ℕ) → m < n → nat_cmp m n ≡ Less
less m n h = sym (nat_cmp_is m n Less h)

types_below : (n : ℕ) (us : List Entry) (v : Entry) → v.0 ≡ n → AllByRecursion (λ (u : Entry). u.0 < n) us → AllByRecursion (λ k. nat_cmp k v.0 ≡ Less) (types us)
types_below n [] v e below = tt
types_below n (u ∷ us) v e below = (rw e (less u.0 n below.0), types_below n us v e below.1)

-- one type more above the others
above_one : (x : ℕ) (us : List Entry) (v : Entry) → AllByRecursion (λ k. nat_cmp x k ≡ Less) (types us) → nat_cmp x v.0 ≡ Less → AllByRecursion (λ k. nat_cmp x k ≡ Less) (types (us ++ v ∷ []))
above_one x [] v above last = (last, tt)
above_one x (u ∷ us) v above last = (above.0, above_one x us v above.1 last)

sorted_more : (us : List Entry) (v : Entry) → IsStrictlySortedBy nat_cmp (types us) → AllByRecursion (λ k. nat_cmp k v.0 ≡ Less) (types us) → IsStrictlySortedBy nat_cmp (types (us ++ v ∷ []))
unfolding IsStrictlySortedBy
sorted_more [] v sorted below = (tt, tt)
sorted_more (u ∷ us) v sorted below = (above_one u.0 us v sorted.0 below.0, sorted_more us v sorted.1 below.1)

wider : (n : ℕ) (us : List Entry) → AllByRecursion (λ (u : Entry). u.0 < n) us → AllByRecursion (λ (u : Entry). u.0 < suc n) us
wider n [] below = tt
wider n (u ∷ us) below = let h = below.0 in (omega arith, wider n us below.1)

one_more : (n : ℕ) (us more : List Entry) → AreBelow n us → IsOne n more → AreBelow (suc n) (us ++ more)
one_more n us [] are is = rw (append-nil us) (record { sorted = are.sorted; unknown = are.unknown; below = wider n us are.below })
one_more n us (v ∷ more) are is =
    let e : v.0 ≡ n = is.0 in
    rw is.2 (record {
      sorted = sorted_more us v are.sorted (types_below n us v is.0 are.below);
      unknown = all_append (λ (u : Entry). is_known u.0 ≡ false) us (v ∷ []) are.unknown (is.1, tt);
      below = all_append (λ (u : Entry). u.0 < suc n) us (v ∷ []) (wider n us are.below) (omega arith, tt);
    })

below_read : (n : ℕ) (attributes : List Attribute) → AreBelow n (unknown_below n attributes)
unfolding unknown_below
below_read zero attributes = record { sorted = none_sorted nat_cmp; unknown = tt; below = tt }
below_read (suc n) attributes = one_more n (unknown_below n attributes) (kept_of (first_of n attributes)) (below_read n attributes) (kept_one n (first_of n attributes) (first_type n attributes))

pub unknown_read : (attributes : List Attribute) → AreBelow 256 (unknown_of attributes)
unfolding unknown_of
unknown_read attributes = below_read 256 attributes
