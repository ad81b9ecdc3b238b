-- The rows of a table are good attributes that give no NOTIFICATION, and under each type stands what its row says.
use Rattle.std.proofs.Common.{◌≡◌, ◌∙◌, ℕ, ◌+◌, ◌≤◌, Bool, true, false, cond, not, ◌&&◌, List, [], ◌∷◌, ◌++◌, length, map, filter, flat_map, Option, Some, None, refl, ap, sym, arith}
use Rattle.std.specs.Prelude.{nat_lt, nat_eq, option_map, IfSome, bit_and, ◌==◌}
use Rattle.std.specs.List.{AllByRecursion}
use Rattle.std.proofs.lemmas.Bool.{ne_eqb}
use Rattle.byteorder.specs.Endian.{big_bytes}
use Rattle.net_base.specs.declared.addr.Family.{Family}
use Rattle.net_base.specs.declared.addr.Family.TheVariants.{V4, V6}
use Rattle.bgp_wire.specs.declared.open.Encoding.{Encoding}
use Rattle.attr_model.specs.declared.attrs.Attrs.{Attrs}
use Rattle.attr_model.specs.Valid.{is_known, IsValid}
use Rattle.attr_codec.specs.Field.{length_size}
use Rattle.attr_codec.specs.Fault.{has_optional_bit}
use Rattle.attr_codec.specs.Path.{exceeds}
use Rattle.attr_codec.specs.Written.{Row, row, next_hop_value, atomic_value, aggregator_bytes, large_bytes, list_value, as4_aggregator_value, kept_flags, route_rows, number_rows, list_rows, as4_rows, large_rows, is_between, unknown_row, unknown_rows, low_rows, high_rows, attrs_rows, IsShort, IsShortOne, HaveShortValues}
use Rattle.attr_codec.specs.Width.{IsUnknown, HaveWidth}
use Rattle.attr_codec.proofs.Appends.{all_append}
use Rattle.attr_codec.proofs.Rows.{IsGood, rows_attributes, found_at, IsQuiet}
use Rattle.attr_codec.proofs.Gaps.{Entry, AreUnknown, known_at, unknown_at}
use Rattle.attr_codec.proofs.FieldBack.{Holds}

-- ---- good rows

kept_good : (bits bit : ℕ) → (b : Bool) → (bit_and bits bit == 0) ≡ b → (length_size (kept_flags bits bit) ≡ 1) × (length_size (kept_flags bits bit + 16) ≡ 2)
kept_good bits bit true e = rw e (refl, refl)
kept_good bits bit false e = rw e (refl, refl)

kept_row : (bits bit kind : ℕ) (value : Option (List ℕ)) → IfSome value IsShort → IsGood (row (kept_flags bits bit) kind value)
kept_row bits bit kind value short = let k = kept_good bits bit (bit_and bits bit == 0) refl in record { one = k.0; two = k.1; short = short }

hop_short : (family : Family) (bits : ℕ) → IfSome (next_hop_value family bits) IsShort
hop_short V4 bits = omega arith
hop_short V6 bits = tt

number_short : (n : Option ℕ) → IfSome (option_map (big_bytes 4) n) IsShort
number_short None = tt
number_short (Some n) = omega arith

atomic_short : (b : Bool) → IfSome (atomic_value b) IsShort
atomic_short true = omega arith
atomic_short false = tt

pub aggregator_length : (as4 : Bool) (aggregator : ℕ × ℕ) → length (aggregator_bytes as4 aggregator) ≤ 8
aggregator_length true aggregator = omega arith
aggregator_length false aggregator = omega arith

aggregator_short : (as4 : Bool) (aggregator : Option (ℕ × ℕ)) → IfSome (option_map (aggregator_bytes as4) aggregator) IsShort
aggregator_short as4 None = tt
aggregator_short as4 (Some aggregator) = let l = aggregator_length as4 aggregator in omega arith

list_short : {X : Type 0} (f : X → List ℕ) (xs : List X) → IsShort (flat_map f xs) → IfSome (list_value f xs) IsShort
list_short f [] h = tt
list_short f (x ∷ xs) h = h

as4_aggregator_short : (as4 : Bool) (aggregator : Option (ℕ × ℕ)) → IfSome (as4_aggregator_value as4 aggregator) IsShort
as4_aggregator_short as4 None = tt
as4_aggregator_short as4 (Some aggregator) = by (not as4 && exceeds aggregator.0)
  where
    by : (b : Bool) → IfSome (cond b (Some (aggregator_bytes true aggregator)) None) IsShort
    by true = omega arith
    by false = tt

unknown_good : (low high : ℕ) (us : List Entry) → AllByRecursion IsShortOne us → AllByRecursion IsUnknown us → AllByRecursion IsGood (unknown_rows low high us)
unknown_good low high [] short width = tt
unknown_good low high (u ∷ us) short width = by (is_between low high u) (unknown_good low high us short.1 width.1)
  where
    by : (b : Bool) → AllByRecursion IsGood (unknown_rows low high us) → AllByRecursion IsGood (map unknown_row (cond b (u ∷ filter (is_between low high) us) (filter (is_between low high) us)))
    by true rest = (record { one = refl; two = refl; short = short.0 width.0 }, rest)
    by false rest = rest

pub all_good : (enc : Encoding) (attrs : Attrs) → HaveShortValues enc attrs → HaveWidth attrs → AllByRecursion IsGood (attrs_rows enc attrs)
all_good enc attrs short width =
    let origin : IsShort (attrs.origin ∷ []) = omega arith in
    let route : AllByRecursion IsGood (route_rows enc attrs) = (record { one = refl; two = refl; short = origin }, (record { one = refl; two = refl; short = short.path }, (record { one = refl; two = refl; short = hop_short attrs.hop.family attrs.hop.bits }, tt))) in
    let numbers : AllByRecursion IsGood (number_rows attrs) = (record { one = refl; two = refl; short = number_short attrs.med }, (record { one = refl; two = refl; short = number_short attrs.local_pref }, (record { one = refl; two = refl; short = atomic_short attrs.atomic }, tt))) in
    let lists : AllByRecursion IsGood (list_rows enc attrs) = (kept_row attrs.«partial» 1 7 (option_map (aggregator_bytes enc.as4) attrs.aggregator) (aggregator_short enc.as4 attrs.aggregator), (kept_row attrs.«partial» 2 8 (list_value (big_bytes 4) attrs.communities) (list_short (big_bytes 4) attrs.communities short.communities), tt)) in
    let as4 : AllByRecursion IsGood (as4_rows enc attrs) = (record { one = refl; two = refl; short = short.as4_path }, (record { one = refl; two = refl; short = as4_aggregator_short enc.as4 attrs.aggregator }, tt)) in
    let large : AllByRecursion IsGood (large_rows attrs) = (kept_row attrs.«partial» 4 32 (list_value large_bytes attrs.large) (list_short large_bytes attrs.large short.large), tt) in
    let u = attrs.unknown in
    all_append IsGood (low_rows enc attrs) (high_rows enc attrs)
    (all_append IsGood ((unknown_rows 0 0 u ++ route_rows enc attrs) ++ number_rows attrs) (list_rows enc attrs)
    (all_append IsGood (unknown_rows 0 0 u ++ route_rows enc attrs) (number_rows attrs)
    (all_append IsGood (unknown_rows 0 0 u) (route_rows enc attrs) (unknown_good 0 0 u short.unknown width.unknown) route) numbers) lists)
    (all_append IsGood (((unknown_rows 9 16 u ++ as4_rows enc attrs) ++ unknown_rows 19 31 u) ++ large_rows attrs) (unknown_rows 33 255 u)
    (all_append IsGood ((unknown_rows 9 16 u ++ as4_rows enc attrs) ++ unknown_rows 19 31 u) (large_rows attrs)
    (all_append IsGood (unknown_rows 9 16 u ++ as4_rows enc attrs) (unknown_rows 19 31 u)
    (all_append IsGood (unknown_rows 9 16 u) (as4_rows enc attrs) (unknown_good 9 16 u short.unknown width.unknown) as4) (unknown_good 19 31 u short.unknown width.unknown)) large) (unknown_good 33 255 u short.unknown width.unknown))

-- ---- quiet rows

not_known : (kind known : ℕ) → is_known kind ≡ false → is_known known ≡ true → nat_eq kind known ≡ false
not_known kind known unknown is = ne_eqb kind known (λ same. let h : true ≡ false = sym is ∙ ap is_known (sym same) ∙ unknown in absurd cc)

optional_bit : (b : Bool) → has_optional_bit (cond b 240 224) ≡ true
optional_bit true = refl
optional_bit false = refl

copy_or_not : (b : Bool) → ◌≡◌ {A = Option ℕ} (cond b None None) None
copy_or_not true = refl
copy_or_not false = refl

unknown_quiet_row : (enc : Encoding) (u : Entry) → is_known u.0 ≡ false → IsQuiet enc (unknown_row u)
unknown_quiet_row enc u unknown = record {
  none = λ is_copy value. rw (not_known u.0 14 unknown refl, not_known u.0 15 unknown refl, unknown, optional_bit (nat_lt 255 (length value))) (copy_or_not is_copy);
}

unknown_quiet : (enc : Encoding) (low high : ℕ) (us : List Entry) → AreUnknown us → AllByRecursion (IsQuiet enc) (unknown_rows low high us)
unknown_quiet enc low high [] are = tt
unknown_quiet enc low high (u ∷ us) are = by (is_between low high u) (unknown_quiet enc low high us are.1)
  where
    by : (b : Bool) → AllByRecursion (IsQuiet enc) (unknown_rows low high us) → AllByRecursion (IsQuiet enc) (map unknown_row (cond b (u ∷ filter (is_between low high) us) (filter (is_between low high) us)))
    by true rest = (unknown_quiet_row enc u are.0, rest)
    by false rest = rest

pub all_quiet : (enc : Encoding) (attrs : Attrs) → AreUnknown attrs.unknown → AllByRecursion (IsQuiet enc) (attrs_rows enc attrs)
all_quiet enc attrs are =
    let quiet = IsQuiet enc in
    let route : AllByRecursion quiet (route_rows enc attrs) = (record { none = λ c v. refl }, (record { none = λ c v. refl }, (record { none = λ c v. refl }, tt))) in
    let numbers : AllByRecursion quiet (number_rows attrs) = (record { none = λ c v. refl }, (record { none = λ c v. refl }, (record { none = λ c v. refl }, tt))) in
    let lists : AllByRecursion quiet (list_rows enc attrs) = (record { none = λ c v. refl }, (record { none = λ c v. refl }, tt)) in
    let as4 : AllByRecursion quiet (as4_rows enc attrs) = (record { none = λ c v. refl }, (record { none = λ c v. refl }, tt)) in
    let large : AllByRecursion quiet (large_rows attrs) = (record { none = λ c v. refl }, tt) in
    let u = attrs.unknown in
    all_append quiet (low_rows enc attrs) (high_rows enc attrs)
    (all_append quiet ((unknown_rows 0 0 u ++ route_rows enc attrs) ++ number_rows attrs) (list_rows enc attrs)
    (all_append quiet (unknown_rows 0 0 u ++ route_rows enc attrs) (number_rows attrs)
    (all_append quiet (unknown_rows 0 0 u) (route_rows enc attrs) (unknown_quiet enc 0 0 u are) route) numbers) lists)
    (all_append quiet (((unknown_rows 9 16 u ++ as4_rows enc attrs) ++ unknown_rows 19 31 u) ++ large_rows attrs) (unknown_rows 33 255 u)
    (all_append quiet ((unknown_rows 9 16 u ++ as4_rows enc attrs) ++ unknown_rows 19 31 u) (large_rows attrs)
    (all_append quiet (unknown_rows 9 16 u ++ as4_rows enc attrs) (unknown_rows 19 31 u)
    (all_append quiet (unknown_rows 9 16 u) (as4_rows enc attrs) (unknown_quiet enc 9 16 u are) as4) (unknown_quiet enc 19 31 u are)) large) (unknown_quiet enc 33 255 u are))

-- ---- what stands under each type

pub holds_plain : (enc : Encoding) (attrs : Attrs) → IsValid attrs → Holds enc attrs (rows_attributes (attrs_rows enc attrs))
holds_plain enc attrs is = record {
  known = λ kind known other. found_at kind (attrs_rows enc attrs) ∙ known_at enc attrs kind known is.unknown_types;
  unknown = record {
    at = λ kind unknown low. found_at kind (attrs_rows enc attrs) ∙ unknown_at enc attrs kind unknown low;
    types = is.unknown_types;
    sorted = is.unknown;
  };
}

-- the same behind an attribute of type 14
pub holds_behind : (enc : Encoding) (attrs : Attrs) (front : Row) → front.kind ≡ 14 → IsValid attrs → Holds enc attrs (rows_attributes (front ∷ attrs_rows enc attrs))
holds_behind enc attrs front e is = record {
  known = λ kind known other.
      let skip : nat_eq front.kind kind ≡ false = ap (λ k. nat_eq k kind) e ∙ other in
      found_at kind (front ∷ attrs_rows enc attrs) ∙ rw skip (known_at enc attrs kind known is.unknown_types);
  unknown = record {
    at = λ kind unknown low.
        let skip : nat_eq front.kind kind ≡ false = ap (λ k. nat_eq k kind) e ∙ ne_eqb 14 kind (λ same. let h : true ≡ false = ap is_known same ∙ unknown in absurd cc) in
        found_at kind (front ∷ attrs_rows enc attrs) ∙ rw skip (unknown_at enc attrs kind unknown low);
    types = is.unknown_types;
    sorted = is.unknown;
  };
}
