-- The types of the attributes that are sent ascend.
use Rattle.std.proofs.Common.{◌≡◌, ℕ, ◌<◌, ◌≤◌, true, false, List, [], ◌∷◌, ◌++◌, map, filter, cond, refl, sym, subst, arith}
use Rattle.std.specs.List.{AllByRecursion}
use Rattle.std.specs.List.Sorted.{IsStrictlySortedBy}
use Rattle.std.specs.declared.cmp.Ordering.TheVariants.{Less}
use Rattle.std.specs.Ordering.{nat_cmp}
use Rattle.std.specs.Cmp.{nat_cmp_is}
use Rattle.std.proofs.lemmas.List.{map-append}
use Rattle.bgp_wire.specs.declared.open.Encoding.{Encoding}
use Rattle.attr_model.specs.declared.attrs.Attrs.{Attrs}
use Rattle.attr_model.specs.Valid.{IsValid}
use Rattle.attr_codec.specs.Written.{Row, unknown_row, unknown_rows, is_between, route_rows, number_rows, list_rows, as4_rows, large_rows, low_rows, high_rows, attrs_rows}

abbrev kinds : List Row → List ℕ
kinds rows = map (λ (row : Row). row.kind) rows

-- rows whose types ascend, from one to another
record Ascend (low high : ℕ) (rows : List Row) : Type 0 where
  within : AllByRecursion (λ n. (low ≤ n) × (n ≤ high)) (kinds rows)
  sorted : IsStrictlySortedBy nat_cmp (kinds rows)

less : (m n : ℕ) → m < n → nat_cmp m n ≡ Less
less m n below = sym (nat_cmp_is m n Less below)

above : (n low high : ℕ) (ys : List ℕ) → n < low → AllByRecursion (λ y. (low ≤ y) × (y ≤ high)) ys → AllByRecursion (λ y. nat_cmp n y ≡ Less) ys
above n low high [] below w = tt
above n low high (y ∷ ys) below w = (less n y (omega (arith, w.0.0)), above n low high ys below w.1)

both : {X : Type 0} (P : X → Type 0) (xs ys : List X) → AllByRecursion P xs → AllByRecursion P ys → AllByRecursion P (xs ++ ys)
both P [] ys p q = q
both P (x ∷ xs) ys p q = (p.0, both P xs ys p.1 q)

wider : (a b c d : ℕ) (xs : List ℕ) → c ≤ a → b ≤ d → AllByRecursion (λ n. (a ≤ n) × (n ≤ b)) xs → AllByRecursion (λ n. (c ≤ n) × (n ≤ d)) xs
wider a b c d [] low high w = tt
wider a b c d (x ∷ xs) low high w = ((omega (arith, w.0.0), omega (arith, w.0.1)), wider a b c d xs low high w.1)

sorted_both : (a b c d : ℕ) (xs ys : List ℕ) → b < c → AllByRecursion (λ n. (a ≤ n) × (n ≤ b)) xs → IsStrictlySortedBy nat_cmp xs →
    AllByRecursion (λ n. (c ≤ n) × (n ≤ d)) ys → IsStrictlySortedBy nat_cmp ys → IsStrictlySortedBy nat_cmp (xs ++ ys)
unfolding IsStrictlySortedBy
sorted_both a b c d [] ys below w s v t = t
sorted_both a b c d (x ∷ xs) ys below w s v t =
    (both _ xs ys s.0 (above x c d ys (omega (arith, w.0.1)) v), sorted_both a b c d xs ys below w.1 s.1 v t)

joined : (a b c d : ℕ) (xs ys : List Row) → a ≤ c → b < c → b ≤ d → Ascend a b xs → Ascend c d ys → Ascend a d (xs ++ ys)
joined a b c d xs ys low below high one other = record {
  within = subst (λ ks. AllByRecursion (λ n. (a ≤ n) × (n ≤ d)) ks) (sym (map-append (λ (row : Row). row.kind) xs ys))
      (both _ (kinds xs) (kinds ys) (wider a b a d (kinds xs) (omega arith) high one.within) (wider c d a d (kinds ys) low (omega arith) other.within));
  sorted = subst (IsStrictlySortedBy nat_cmp) (sym (map-append (λ (row : Row). row.kind) xs ys))
      (sorted_both a b c d (kinds xs) (kinds ys) below one.within one.sorted other.within other.sorted);
}

-- ---- the rows of the table

known_1 : (n : ℕ) → IsStrictlySortedBy nat_cmp (n ∷ [])
unfolding IsStrictlySortedBy
known_1 n = (tt, tt)

known_2 : (m n : ℕ) → m < n → IsStrictlySortedBy nat_cmp (m ∷ n ∷ [])
unfolding IsStrictlySortedBy
known_2 m n below = ((less m n below, tt), (tt, tt))

known_3 : (k m n : ℕ) → k < m → m < n → IsStrictlySortedBy nat_cmp (k ∷ m ∷ n ∷ [])
unfolding IsStrictlySortedBy
known_3 k m n a b = ((less k m a, (less k n (omega arith), tt)), ((less m n b, tt), (tt, tt)))

-- ---- unknown types

abbrev types : List (ℕ × List ℕ) → List ℕ
types unknown = map (λ (attribute : ℕ × List ℕ). attribute.0) unknown

-- what stands behind the first stays behind where some are left out
still_behind : (n low high : ℕ) (unknown : List (ℕ × List ℕ)) → AllByRecursion (λ y. nat_cmp n y ≡ Less) (types unknown) →
    AllByRecursion (λ y. nat_cmp n y ≡ Less) (kinds (unknown_rows low high unknown))
still_behind n low high [] all = tt
still_behind n low high (first ∷ rest) all =
    elim (is_between low high first) as (λ b. AllByRecursion (λ y. nat_cmp n y ≡ Less) (kinds (map unknown_row (cond b (first ∷ filter (is_between low high) rest) (filter (is_between low high) rest))))) [
      | true ↦ (all.0, still_behind n low high rest all.1)
      | false ↦ still_behind n low high rest all.1
    ]

picked_sorted : (low high : ℕ) (unknown : List (ℕ × List ℕ)) → IsStrictlySortedBy nat_cmp (types unknown) →
    IsStrictlySortedBy nat_cmp (kinds (unknown_rows low high unknown))
unfolding IsStrictlySortedBy
picked_sorted low high [] s = tt
picked_sorted low high (first ∷ rest) s =
    elim (is_between low high first) as (λ b. IsStrictlySortedBy nat_cmp (kinds (map unknown_row (cond b (first ∷ filter (is_between low high) rest) (filter (is_between low high) rest))))) [
      | true ↦ (still_behind first.0 low high rest s.0, picked_sorted low high rest s.1)
      | false ↦ picked_sorted low high rest s.1
    ]

kind_within : (low high : ℕ) (attribute : ℕ × List ℕ) → is_between low high attribute ≡ true → (low ≤ attribute.0) × (attribute.0 ≤ high)
kind_within low high attribute is = (grind (arith, is), grind (arith, is))

picked_within : (low high : ℕ) (unknown : List (ℕ × List ℕ)) → AllByRecursion (λ n. (low ≤ n) × (n ≤ high)) (kinds (unknown_rows low high unknown))
picked_within low high [] = tt
picked_within low high (first ∷ rest) =
    elim (is_between low high first) as (λ b. is_between low high first ≡ b → AllByRecursion (λ n. (low ≤ n) × (n ≤ high)) (kinds (map unknown_row (cond b (first ∷ filter (is_between low high) rest) (filter (is_between low high) rest))))) [
      | true ↦ λ is. (kind_within low high first is, picked_within low high rest)
      | false ↦ λ is. picked_within low high rest
    ] refl

picked : (low high : ℕ) (unknown : List (ℕ × List ℕ)) → IsStrictlySortedBy nat_cmp (types unknown) → Ascend low high (unknown_rows low high unknown)
picked low high unknown s = record { within = picked_within low high unknown; sorted = picked_sorted low high unknown s }

-- ---- all rows

low_ascend : (enc : Encoding) (attrs : Attrs) → IsStrictlySortedBy nat_cmp (types attrs.unknown) → Ascend 0 8 (low_rows enc attrs)
low_ascend enc attrs s =
    joined 0 6 7 8 _ (list_rows enc attrs) (omega arith) (omega arith) (omega arith)
    (joined 0 3 4 6 _ (number_rows attrs) (omega arith) (omega arith) (omega arith)
    (joined 0 0 1 3 _ (route_rows enc attrs) (omega arith) (omega arith) (omega arith)
    (picked 0 0 attrs.unknown s)
    (record { within = ((omega arith, omega arith), ((omega arith, omega arith), ((omega arith, omega arith), tt))); sorted = known_3 1 2 3 (omega arith) (omega arith) }))
    (record { within = ((omega arith, omega arith), ((omega arith, omega arith), ((omega arith, omega arith), tt))); sorted = known_3 4 5 6 (omega arith) (omega arith) }))
    (record { within = ((omega arith, omega arith), ((omega arith, omega arith), tt)); sorted = known_2 7 8 (omega arith) })

high_ascend : (enc : Encoding) (attrs : Attrs) → IsStrictlySortedBy nat_cmp (types attrs.unknown) → Ascend 9 255 (high_rows enc attrs)
high_ascend enc attrs s =
    joined 9 32 33 255 _ (unknown_rows 33 255 attrs.unknown) (omega arith) (omega arith) (omega arith)
    (joined 9 31 32 32 _ (large_rows attrs) (omega arith) (omega arith) (omega arith)
    (joined 9 18 19 31 _ (unknown_rows 19 31 attrs.unknown) (omega arith) (omega arith) (omega arith)
    (joined 9 16 17 18 _ (as4_rows enc attrs) (omega arith) (omega arith) (omega arith)
    (picked 9 16 attrs.unknown s)
    (record { within = ((omega arith, omega arith), ((omega arith, omega arith), tt)); sorted = known_2 17 18 (omega arith) }))
    (picked 19 31 attrs.unknown s))
    (record { within = ((omega arith, omega arith), tt); sorted = known_1 32 }))
    (picked 33 255 attrs.unknown s)

pub types_ascend : (enc : Encoding) (attrs : Attrs) → IsValid attrs → IsStrictlySortedBy nat_cmp (map (λ (row : Row). row.kind) (attrs_rows enc attrs))
types_ascend enc attrs valid =
    (joined 0 8 9 255 (low_rows enc attrs) (high_rows enc attrs) (omega arith) (omega arith) (omega arith)
    (low_ascend enc attrs valid.unknown) (high_ascend enc attrs valid.unknown)).sorted
