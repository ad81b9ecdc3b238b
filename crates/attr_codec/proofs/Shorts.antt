-- A field that isn't too long has no value that is.
use Rattle.std.proofs.Common.{◌≡◌, ◌∙◌, ℕ, ◌+◌, ◌<◌, ◌≤◌, Bool, true, false, cond, ◌||◌, List, [], ◌∷◌, ◌++◌, length, flat_map, Option, Some, None, refl, ap, arith, length-append}
use Rattle.std.specs.Prelude.{nat_le, option_map, IfSome}
use Rattle.std.specs.List.{AllByRecursion}
use Rattle.std.proofs.lemmas.Grind.{flat_map-append}
use Rattle.byteorder.specs.Endian.{big_bytes}
use Rattle.bgp_wire.specs.declared.open.Encoding.{Encoding}
use Rattle.attr_model.specs.declared.attrs.Attrs.{Attrs}
use Rattle.attr_codec.specs.Path.{path_bytes}
use Rattle.attr_codec.specs.Written.{Row, row, header_bytes, row_bytes, rows_bytes, large_bytes, next_hop_value, aggregator_bytes, as4_aggregator_value, list_value, as4_path_value, kept_flags, unknown_row, unknown_rows, is_between, route_rows, number_rows, list_rows, as4_rows, large_rows, low_rows, high_rows, attrs_bytes, HaveShortValues}
use Rattle.attr_codec.proofs.Gaps.{Entry, AreUnknown, within, in_gap, step_rows, known_other}

abbrev size : List Row → ℕ
size rows = length (rows_bytes rows)

size_append : (xs ys : List Row) → size (xs ++ ys) ≡ size xs + size ys
size_append xs ys = ap length (flat_map-append row_bytes xs ys) ∙ length-append (rows_bytes xs) (rows_bytes ys)

first_of_rows : (r : Row) (rows : List Row) → size (r ∷ rows) ≡ length (row_bytes r) + size rows
first_of_rows r rows = length-append (row_bytes r) (rows_bytes rows)

value_within : (flags kind : ℕ) (value : List ℕ) → length value ≤ length (row_bytes (row flags kind (Some value)))
value_within flags kind value = omega (arith, length-append (header_bytes flags kind (length value)) value)

optional_within : (flags kind n : ℕ) (value : Option (List ℕ)) → length (row_bytes (row flags kind value)) ≤ n → IfSome value (λ v. length v ≤ n)
optional_within flags kind n None h = tt
optional_within flags kind n (Some value) h = omega (arith, value_within flags kind value)

list_within : {X : Type 0} (f : X → List ℕ) (flags kind n : ℕ) (xs : List X) → length (row_bytes (row flags kind (list_value f xs))) ≤ n → length (flat_map f xs) ≤ n
list_within f flags kind n [] h = omega arith
list_within f flags kind n (x ∷ xs) h = omega (arith, value_within flags kind (flat_map f (x ∷ xs)))

-- ---- attributes of unknown types

abbrev in_gaps : List Entry → ℕ
in_gaps us = ((size (unknown_rows 0 0 us) + size (unknown_rows 9 16 us)) + size (unknown_rows 19 31 us)) + size (unknown_rows 33 255 us)

gap_size : (low high : ℕ) (u : Entry) (us : List Entry) (b : Bool) → is_between low high u ≡ b → size (unknown_rows low high (u ∷ us)) ≡ cond b (length (row_bytes (unknown_row u))) 0 + size (unknown_rows low high us)
gap_size low high u us true e = ap size (step_rows low high u us true e) ∙ length-append (row_bytes (unknown_row u)) (rows_bytes (unknown_rows low high us))
gap_size low high u us false e = ap size (step_rows low high u us false e) ∙ omega arith

some_gap : (a b c d : Bool) (n : ℕ) → (((a || b) || c) || d) ≡ true → n ≤ ((cond a n 0 + cond b n 0) + cond c n 0) + cond d n 0
some_gap true b c d n h = omega arith
some_gap false true c d n h = omega arith
some_gap false false true d n h = omega arith
some_gap false false false true n h = omega arith
some_gap false false false false n h = absurd cc

unknown_within : (n : ℕ) (us : List Entry) → AreUnknown us → in_gaps us ≤ n → AllByRecursion (λ (u : Entry). u.0 < 256 → length u.1 ≤ n) us
unknown_within n [] are h = tt
unknown_within n (u ∷ us) are h =
    let a = gap_size 0 0 u us (within 0 0 u.0) refl in
    let b = gap_size 9 16 u us (within 9 16 u.0) refl in
    let c = gap_size 19 31 u us (within 19 31 u.0) refl in
    let d = gap_size 33 255 u us (within 33 255 u.0) refl in
    let here : u.0 < 256 → length u.1 ≤ n = λ low.
    let covered = in_gap u.0 (λ known is. known_other u.0 known are.0 is) low (nat_le u.0 0) (nat_le u.0 16) (nat_le u.0 31) refl refl refl in
    let some = some_gap (within 0 0 u.0) (within 9 16 u.0) (within 19 31 u.0) (within 33 255 u.0) (length (row_bytes (unknown_row u))) covered in
    let value = value_within 224 u.0 u.1 in
    omega arith in
    (here, unknown_within n us are.1 (omega arith))

-- ---- all values

pub short_values : (enc : Encoding) (attrs : Attrs) → AreUnknown attrs.unknown → length (attrs_bytes enc attrs) ≤ 65535 → HaveShortValues enc attrs
unfolding attrs_bytes
short_values enc attrs are h =
    let u = attrs.unknown in
    let all = size_append (low_rows enc attrs) (high_rows enc attrs) in
    let l1 = size_append ((unknown_rows 0 0 u ++ route_rows enc attrs) ++ number_rows attrs) (list_rows enc attrs) in
    let l2 = size_append (unknown_rows 0 0 u ++ route_rows enc attrs) (number_rows attrs) in
    let l3 = size_append (unknown_rows 0 0 u) (route_rows enc attrs) in
    let h1 = size_append (((unknown_rows 9 16 u ++ as4_rows enc attrs) ++ unknown_rows 19 31 u) ++ large_rows attrs) (unknown_rows 33 255 u) in
    let h2 = size_append ((unknown_rows 9 16 u ++ as4_rows enc attrs) ++ unknown_rows 19 31 u) (large_rows attrs) in
    let h3 = size_append (unknown_rows 9 16 u ++ as4_rows enc attrs) (unknown_rows 19 31 u) in
    let h4 = size_append (unknown_rows 9 16 u) (as4_rows enc attrs) in
    let gaps : in_gaps u ≤ 65535 = omega arith in
    let route : size (route_rows enc attrs) ≤ 65535 = omega arith in
    let lists : size (list_rows enc attrs) ≤ 65535 = omega arith in
    let as4 : size (as4_rows enc attrs) ≤ 65535 = omega arith in
    let large : size (large_rows attrs) ≤ 65535 = omega arith in
    let path_row = row 64 2 (Some (path_bytes enc.as4 attrs.path)) in
    let r1 = first_of_rows (row 64 1 (Some (attrs.origin ∷ []))) (path_row ∷ row 64 3 (next_hop_value attrs.hop.family attrs.hop.bits) ∷ []) in
    let r2 = first_of_rows path_row (row 64 3 (next_hop_value attrs.hop.family attrs.hop.bits) ∷ []) in
    let path : length (row_bytes path_row) ≤ 65535 = omega arith in
    let aggregator_row = row (kept_flags attrs.«partial» 1) 7 (option_map (aggregator_bytes enc.as4) attrs.aggregator) in
    let communities_row = row (kept_flags attrs.«partial» 2) 8 (list_value (big_bytes 4) attrs.communities) in
    let r3 = first_of_rows aggregator_row (communities_row ∷ []) in
    let r4 = first_of_rows communities_row [] in
    let communities : length (row_bytes communities_row) ≤ 65535 = omega arith in
    let as4_path_row = row 192 17 (as4_path_value enc.as4 attrs.path) in
    let r5 = first_of_rows as4_path_row (row 192 18 (as4_aggregator_value enc.as4 attrs.aggregator) ∷ []) in
    let as4_path : length (row_bytes as4_path_row) ≤ 65535 = omega arith in
    let large_row = row (kept_flags attrs.«partial» 4) 32 (list_value large_bytes attrs.large) in
    let r6 = first_of_rows large_row [] in
    let larges : length (row_bytes large_row) ≤ 65535 = omega arith in
    let path_value = value_within 64 2 (path_bytes enc.as4 attrs.path) in
    record {
      path = omega arith;
      as4_path = optional_within 192 17 65535 (as4_path_value enc.as4 attrs.path) as4_path;
      communities = list_within (big_bytes 4) (kept_flags attrs.«partial» 2) 8 65535 attrs.communities communities;
      large = list_within large_bytes (kept_flags attrs.«partial» 4) 32 65535 attrs.large larges;
      unknown = unknown_within 65535 u are gaps;
    }
