-- What the attributes say that were written.
use Rattle.std.proofs.Common.{◌≡◌, ◌≢◌, ◌∙◌, ℕ, ◌+◌, ◌*◌, ◌-◌, ◌%◌, ◌^◌, ◌<◌, ◌≤◌, zero, suc, Bool, true, false, cond, not, ◌||◌, ◌&&◌, List, [], ◌∷◌, length, map, flat_map, Option, Some, None, refl, ap, sym, arith, lit<}
use Rattle.std.specs.Prelude.{nat_lt, nat_le, nat_eq, option_map, IfSome, is_some, bit_and, ◌==◌, unwrap_or}
use Rattle.std.specs.Option.{option_or}
use Rattle.std.specs.List.{AllByRecursion, list_any}
use Rattle.std.specs.List.Sorted.{IsStrictlySortedBy}
use Rattle.std.proofs.Math.Nat.{mul-mod_left, suc-mul}
use Rattle.std.specs.Ordering.{nat_cmp}
use Rattle.std.proofs.lemmas.Bool.Decides.{nat_tests}
use Rattle.std.proofs.lemmas.Cmp.{nat_cmp_total}
use Rattle.std.proofs.lemmas.List.Sums.{sum_by-cons}
use Rattle.byteorder.specs.Endian.{big_bytes}
use Rattle.byteorder.specs.Numbers.{big_number-reads_back}
use Rattle.attr_model.specs.declared.attrs.Attrs.{Attrs}
use Rattle.attr_model.specs.declared.path.Segment.{Segment}
use Rattle.attr_model.specs.declared.path.Segment.TheVariants.{Set, Sequence}
use Rattle.attr_model.specs.Path.{path_length, count_of}
use Rattle.attr_model.specs.Valid.{large_cmp, IsPath, IsPartial}
use Rattle.attr_codec.specs.declared.said.Said.{Said}
use Rattle.attr_codec.specs.declared.said.Said.TheVariants.{Nothing, Value}
use Rattle.attr_codec.specs.declared.said.Flags.{Flags}
use Rattle.attr_codec.specs.declared.said.Flags.TheVariants.{WellKnown, OptionalTransitive}
use Rattle.attr_codec.specs.Field.{Attribute, first_of}
use Rattle.attr_codec.specs.Flags.{fits}
use Rattle.attr_codec.specs.Said.{◌>>=◌, or_malformed, or_dropped, value_of, is_malformed, bytes_with, bytes_said}
use Rattle.attr_codec.specs.Path.{path_of, exceeds, told_as, path_bytes, segment_exceeds, path_exceeds}
use Rattle.attr_codec.specs.Values.{origin_of, origin_said, path_said, number_of, number_said, atomic_said, aggregator_of, aggregator_said, as4_aggregator_said, as4_path_said, leading, joined_paths}
use Rattle.attr_codec.specs.Communities.{is_ragged, communities_of, communities_said, larges_said_of, large_said}
use Rattle.attr_codec.specs.Parts.{has_partial_bit, partial_bit, is_filled}
use Rattle.attr_codec.specs.Written.{aggregator_bytes, large_bytes, list_value, atomic_value, as4_path_value, as4_aggregator_value, kept_flags}
use Rattle.attr_codec.specs.Width.{IsNumber, AreNumbers, AreSegments, IsAggregator, IsLarge}
use Rattle.attr_codec.proofs.Rows.{attribute_of, or_none}
use Rattle.attr_codec.proofs.ItemsBack.{told_segment, map_same, u32s_back, larges_back, path_back}
use Rattle.attr_model.proofs.LargeOrder.{large_total}
use Rattle.attr_codec.proofs.Ascended.{ascending_same}
use Rattle.attr_codec.proofs.Lengths.{u32s_size, larges_size}

-- an attribute that is there is said
abbrev pub as_said : {X : Type 0} → Option X → Said X
as_said None = Nothing
as_said (Some x) = Value x

pub value_said : {X : Type 0} (o : Option X) → value_of (as_said o) ≡ o
value_said None = refl
value_said (Some x) = refl

pub good_said : {X : Type 0} (o : Option X) → is_malformed (as_said o) ≡ false
good_said None = refl
good_said (Some x) = refl

with_bytes : (test : ℕ → Bool) (flags kind : ℕ) (value : List ℕ) → test flags ≡ true → test (flags + 16) ≡ true → (b : Bool) → nat_lt 255 (length value) ≡ b → bytes_with test (Some (attribute_of flags kind value)) ≡ Value value
with_bytes test flags kind value one two true e = rw (e, two) refl
with_bytes test flags kind value one two false e = rw (e, one) refl

bytes_by : (test : ℕ → Bool) (flags kind : ℕ) (value : Option (List ℕ)) → test flags ≡ true → test (flags + 16) ≡ true → bytes_with test (option_map (attribute_of flags kind) value) ≡ as_said value
bytes_by test flags kind None one two = refl
bytes_by test flags kind (Some value) one two = with_bytes test flags kind value one two (nat_lt 255 (length value)) refl

pub bytes_back : (test : ℕ → Bool) (flags kind : ℕ) (value : Option (List ℕ)) (attributes : List Attribute) → first_of kind attributes ≡ option_or (option_map (attribute_of flags kind) value) None
    → test flags ≡ true → test (flags + 16) ≡ true → bytes_said test kind attributes ≡ as_said value
bytes_back test flags kind value attributes e one two =
    ap (bytes_with test) (e ∙ or_none (option_map (attribute_of flags kind) value)) ∙ bytes_by test flags kind value one two

-- ---- each by itself

origin_is : (origin : ℕ) → origin ≤ 2 → origin_of (origin ∷ []) ≡ Some origin
origin_is origin h = let e : nat_le origin 2 ≡ true = grind (arith, nat_tests) in rw e refl

pub origin_back : (origin : ℕ) (attributes : List Attribute) → origin ≤ 2 → first_of 1 attributes ≡ option_or (option_map (attribute_of 64 1) (Some (origin ∷ []))) None → origin_said attributes ≡ Value origin
unfolding origin_said
origin_back origin attributes h e = rw (bytes_back (fits WellKnown) 64 1 (Some (origin ∷ [])) attributes e refl refl, origin_is origin h) refl

pub path_said_back : (as4 : Bool) (path : List Segment) (attributes : List Attribute) → IsPath path → AreSegments path → first_of 2 attributes ≡ option_or (option_map (attribute_of 64 2) (Some (path_bytes as4 path))) None → path_said as4 attributes ≡ Value (map (told_segment as4) path)
unfolding path_said
path_said_back as4 path attributes is width e = rw (bytes_back (fits WellKnown) 64 2 (Some (path_bytes as4 path)) attributes e refl refl, path_back as4 path is width) refl

number_is : (n : ℕ) → IsNumber n → number_of (big_bytes 4 n) ≡ Some n
number_is n h = ap (λ (x : ℕ). Some x) (big_number-reads_back 4 n [] h)

number_by : (n : Option ℕ) → IfSome n IsNumber → (as_said (option_map (big_bytes 4) n) >>= λ value. or_malformed (number_of value)) ≡ as_said n
number_by None h = refl
number_by (Some n) h = ap or_malformed (number_is n h)

pub number_back : (kind_flags : Flags) (flags kind : ℕ) (n : Option ℕ) (attributes : List Attribute) → IfSome n IsNumber → first_of kind attributes ≡ option_or (option_map (attribute_of flags kind) (option_map (big_bytes 4) n)) None
    → fits kind_flags flags ≡ true → fits kind_flags (flags + 16) ≡ true → number_said kind_flags kind attributes ≡ as_said n
unfolding number_said
number_back kind_flags flags kind n attributes h e one two =
    ap (λ (s : Said (List ℕ)). s >>= λ value. or_malformed (number_of value)) (bytes_back (fits kind_flags) flags kind (option_map (big_bytes 4) n) attributes e one two) ∙ number_by n h

atomic_by : (b : Bool) → (as_said (atomic_value b) >>= λ value. cond (length value == 0) (Value true) Nothing) ≡ cond b (Value true) Nothing
atomic_by true = refl
atomic_by false = refl

pub atomic_back : (b : Bool) (attributes : List Attribute) → first_of 6 attributes ≡ option_or (option_map (attribute_of 64 6) (atomic_value b)) None → atomic_said attributes ≡ cond b (Value true) Nothing
unfolding atomic_said
atomic_back b attributes e =
    ap (λ (s : Said (List ℕ)). s >>= λ value. cond (length value == 0) (Value true) Nothing) (bytes_back (fits WellKnown) 64 6 (atomic_value b) attributes e refl refl) ∙ atomic_by b

-- an aggregator, as a peer is told
abbrev pub told_aggregator : Bool → ℕ × ℕ → ℕ × ℕ
told_aggregator as4 aggregator = (told_as as4 aggregator.0, aggregator.1)

told_small : (asn : ℕ) (b : Bool) → exceeds asn ≡ b → told_as false asn < 256 ^ 2
told_small asn true e = rw e (lit< tt)
told_small asn false e = rw e (grind (arith, nat_tests))

pub aggregator_is : (as4 : Bool) (aggregator : ℕ × ℕ) → IsAggregator aggregator → aggregator_of as4 (aggregator_bytes as4 aggregator) ≡ Some (told_aggregator as4 aggregator)
aggregator_is true aggregator h =
    let asn = big_number-reads_back 4 aggregator.0 (big_bytes 4 aggregator.1) h.0 in
    let address = big_number-reads_back 4 aggregator.1 [] h.1 in
    rw (asn, address) refl
aggregator_is false aggregator h =
    let asn = big_number-reads_back 2 (told_as false aggregator.0) (big_bytes 4 aggregator.1) (told_small aggregator.0 (exceeds aggregator.0) refl) in
    let address = big_number-reads_back 4 aggregator.1 [] h.1 in
    rw (asn, address) refl

aggregator_by : (as4 : Bool) (aggregator : Option (ℕ × ℕ)) → IfSome aggregator IsAggregator → (as_said (option_map (aggregator_bytes as4) aggregator) >>= λ value. or_dropped (aggregator_of as4 value)) ≡ as_said (option_map (told_aggregator as4) aggregator)
aggregator_by as4 None h = refl
aggregator_by as4 (Some aggregator) h = ap or_dropped (aggregator_is as4 aggregator h)

kept_fits : (bits bit : ℕ) → (b : Bool) → (bit_and bits bit == 0) ≡ b → (fits OptionalTransitive (kept_flags bits bit) ≡ true) × (fits OptionalTransitive (kept_flags bits bit + 16) ≡ true)
kept_fits bits bit true e = rw e (refl, refl)
kept_fits bits bit false e = rw e (refl, refl)

pub aggregator_back : (as4 : Bool) (bits : ℕ) (aggregator : Option (ℕ × ℕ)) (attributes : List Attribute) → IfSome aggregator IsAggregator
    → first_of 7 attributes ≡ option_or (option_map (attribute_of (kept_flags bits 1) 7) (option_map (aggregator_bytes as4) aggregator)) None → aggregator_said as4 attributes ≡ as_said (option_map (told_aggregator as4) aggregator)
unfolding aggregator_said
aggregator_back as4 bits aggregator attributes h e =
    let flags = kept_fits bits 1 (bit_and bits 1 == 0) refl in
    ap (λ (s : Said (List ℕ)). s >>= λ value. or_dropped (aggregator_of as4 value)) (bytes_back (fits OptionalTransitive) (kept_flags bits 1) 7 (option_map (aggregator_bytes as4) aggregator) attributes e flags.0 flags.1) ∙ aggregator_by as4 aggregator h

-- the attributes of four octets, where they are sent to a peer of two
abbrev pub sent_aggregator : Option (ℕ × ℕ) → Option (ℕ × ℕ)
sent_aggregator None = None
sent_aggregator (Some aggregator) = cond (exceeds aggregator.0) (Some aggregator) None

told_whole : (aggregator : ℕ × ℕ) → told_aggregator true aggregator ≡ aggregator
told_whole aggregator = refl

as4_aggregator_by : (aggregator : Option (ℕ × ℕ)) → IfSome aggregator IsAggregator → (as_said (as4_aggregator_value false aggregator) >>= λ value. or_dropped (aggregator_of true value)) ≡ as_said (sent_aggregator aggregator)
as4_aggregator_by None h = refl
as4_aggregator_by (Some aggregator) h = by (exceeds aggregator.0)
  where
    by : (b : Bool) → (as_said (cond b (Some (aggregator_bytes true aggregator)) None) >>= λ value. or_dropped (aggregator_of true value)) ≡ as_said (cond b (Some aggregator) None)
    by true = ap or_dropped (aggregator_is true aggregator h)
    by false = refl

pub as4_aggregator_back : (aggregator : Option (ℕ × ℕ)) (attributes : List Attribute) → IfSome aggregator IsAggregator
    → first_of 18 attributes ≡ option_or (option_map (attribute_of 192 18) (as4_aggregator_value false aggregator)) None → as4_aggregator_said false attributes ≡ as_said (sent_aggregator aggregator)
unfolding as4_aggregator_said
as4_aggregator_back aggregator attributes h e =
    ap (λ (s : Said (List ℕ)). s >>= λ value. or_dropped (aggregator_of true value)) (bytes_back (fits OptionalTransitive) 192 18 (as4_aggregator_value false aggregator) attributes e refl refl) ∙ as4_aggregator_by aggregator h

told_numbers : (numbers : List ℕ) → map (told_as true) numbers ≡ numbers
told_numbers numbers = map_same (told_as true) (λ n. refl) numbers

whole_segment : (s : Segment) → told_segment true s ≡ s
unfolding told_segment
whole_segment (Set numbers) = ap Set (told_numbers numbers)
whole_segment (Sequence numbers) = ap Sequence (told_numbers numbers)

pub whole_path : (path : List Segment) → map (told_segment true) path ≡ path
whole_path path = map_same (told_segment true) whole_segment path

neither : (a b : Bool) → (a || b) ≡ false → (a ≡ false) × (b ≡ false)
neither true b e = absurd cc
neither false b e = (refl, e)

small_numbers : (numbers : List ℕ) → list_any exceeds numbers ≡ false → map (told_as false) numbers ≡ numbers
small_numbers [] h = refl
small_numbers (n ∷ ns) h =
    let both = neither (exceeds n) (list_any exceeds ns) h in
    rw (both.0) (ap (λ (l : List ℕ). n ∷ l) (small_numbers ns both.1))

small_segment : (s : Segment) → segment_exceeds s ≡ false → told_segment false s ≡ s
unfolding told_segment
small_segment (Set numbers) h = ap Set (small_numbers numbers h)
small_segment (Sequence numbers) h = ap Sequence (small_numbers numbers h)

pub small_path : (path : List Segment) → path_exceeds path ≡ false → map (told_segment false) path ≡ path
small_path [] h = refl
small_path (s ∷ path) h =
    let both = neither (segment_exceeds s) (path_exceeds path) h in
    rw (small_segment s both.0, small_path path both.1) refl

length_told : (as4 : Bool) (numbers : List ℕ) → length (map (told_as as4) numbers) ≡ length numbers
length_told as4 [] = refl
length_told as4 (n ∷ ns) = omega (arith, length_told as4 ns)

count_told : (as4 : Bool) (s : Segment) → count_of (told_segment as4 s) ≡ count_of s
unfolding told_segment
count_told as4 (Set numbers) = refl
count_told as4 (Sequence numbers) = length_told as4 numbers

told_length : (as4 : Bool) (path : List Segment) → path_length (map (told_segment as4) path) ≡ path_length path
told_length as4 [] = refl
told_length as4 (s ∷ path) =
    let here : count_of (told_segment as4 s) + path_length (map (told_segment as4) path) ≡ count_of s + path_length path = rw (count_told as4 s, told_length as4 path) refl in
    sum_by-cons count_of (told_segment as4 s) (map (told_segment as4) path) ∙ here ∙ sym (sum_by-cons count_of s path)

leading_none : (n : ℕ) (path : List Segment) → n ≡ 0 → leading n path ≡ []
leading_none n [] e = refl
leading_none n (s ∷ path) e = rw e refl

pub joined_told : (path : List Segment) → joined_paths (map (told_segment false) path) path ≡ path
joined_told path =
    let same = told_length false path in
    let no : nat_lt (path_length (map (told_segment false) path)) (path_length path) ≡ false = grind (arith, nat_tests) in
    let none : path_length (map (told_segment false) path) - path_length path ≡ 0 = omega arith in
    rw (no, leading_none (path_length (map (told_segment false) path) - path_length path) (map (told_segment false) path) none) refl

as4_path_by : (path : List Segment) → IsPath path → AreSegments path → (b : Bool) → (as_said (cond b (Some (path_bytes true path)) None) >>= λ value. or_dropped (path_of true value)) ≡ as_said (cond b (Some path) None)
as4_path_by path is width true = ap or_dropped (path_back true path is width ∙ ap (λ (p : List Segment). Some p) (whole_path path))
as4_path_by path is width false = refl

pub as4_path_back : (path : List Segment) (attributes : List Attribute) → IsPath path → AreSegments path → first_of 17 attributes ≡ option_or (option_map (attribute_of 192 17) (as4_path_value false path)) None → as4_path_said false attributes ≡ as_said (cond (path_exceeds path) (Some path) None)
unfolding as4_path_said
as4_path_back path attributes is width e =
    ap (λ (s : Said (List ℕ)). s >>= λ value. or_dropped (path_of true value)) (bytes_back (fits OptionalTransitive) 192 17 (as4_path_value false path) attributes e refl refl) ∙ as4_path_by path is width (path_exceeds path)

-- ---- lists of communities

abbrev pub filled : {X : Type 0} → List X → Option (List X)
filled [] = None
filled (x ∷ xs) = Some (x ∷ xs)

ragged_by : (size n : ℕ) (value : List ℕ) → 0 < size → length value ≡ suc n * size → is_ragged size value ≡ false
ragged_by size n value some e =
    let left : length value % size ≡ 0 = ap (λ m. m % size) e ∙ mul-mod_left (suc n) size in
    let more : suc n * size ≡ n * size + size = suc-mul n size in
    let a : nat_eq (length value) 0 ≡ false = grind (arith, nat_tests) in
    rw (a, left) refl

communities_is : (cs : List ℕ) → AreNumbers cs → IsStrictlySortedBy nat_cmp cs → (as_said (list_value (big_bytes 4) cs) >>= λ value. or_malformed (communities_of value)) ≡ as_said (filled cs)
communities_is [] width sorted = refl
communities_is (c ∷ cs) width sorted =
    rw (ragged_by 4 (length cs) (flat_map (big_bytes 4) (c ∷ cs)) (lit< tt) (u32s_size (c ∷ cs)), u32s_back (c ∷ cs) width, ascending_same nat_cmp nat_cmp_total (c ∷ cs) sorted) refl

pub communities_back : (bits : ℕ) (cs : List ℕ) (attributes : List Attribute) → AreNumbers cs → IsStrictlySortedBy nat_cmp cs
    → first_of 8 attributes ≡ option_or (option_map (attribute_of (kept_flags bits 2) 8) (list_value (big_bytes 4) cs)) None → communities_said attributes ≡ as_said (filled cs)
unfolding communities_said
communities_back bits cs attributes width sorted e =
    let flags = kept_fits bits 2 (bit_and bits 2 == 0) refl in
    ap (λ (s : Said (List ℕ)). s >>= λ value. or_malformed (communities_of value)) (bytes_back (fits OptionalTransitive) (kept_flags bits 2) 8 (list_value (big_bytes 4) cs) attributes e flags.0 flags.1) ∙ communities_is cs width sorted

large_is : (ls : List (ℕ × ℕ × ℕ)) → AllByRecursion IsLarge ls → IsStrictlySortedBy large_cmp ls → (as_said (list_value large_bytes ls) >>= λ value. or_malformed (larges_said_of value)) ≡ as_said (filled ls)
large_is [] width sorted = refl
large_is (l ∷ ls) width sorted =
    rw (ragged_by 12 (length ls) (flat_map large_bytes (l ∷ ls)) (lit< tt) (larges_size (l ∷ ls)), larges_back (l ∷ ls) width, ascending_same large_cmp large_total (l ∷ ls) sorted) refl

pub large_back : (bits : ℕ) (ls : List (ℕ × ℕ × ℕ)) (attributes : List Attribute) → AllByRecursion IsLarge ls → IsStrictlySortedBy large_cmp ls
    → first_of 32 attributes ≡ option_or (option_map (attribute_of (kept_flags bits 4) 32) (list_value large_bytes ls)) None → large_said attributes ≡ as_said (filled ls)
unfolding large_said
large_back bits ls attributes width sorted e =
    let flags = kept_fits bits 4 (bit_and bits 4 == 0) refl in
    ap (λ (s : Said (List ℕ)). s >>= λ value. or_malformed (larges_said_of value)) (bytes_back (fits OptionalTransitive) (kept_flags bits 4) 32 (list_value large_bytes ls) attributes e flags.0 flags.1) ∙ large_is ls width sorted

pub unwrap_filled : {X : Type 0} (xs : List X) → unwrap_or (value_of (as_said (filled xs))) [] ≡ xs
unwrap_filled [] = refl
unwrap_filled (x ∷ xs) = refl

-- ---- partial bits

bit_by : (bits bit kind : ℕ) (value : Option (List ℕ)) → (b : Bool) → (bit_and bits bit == 0) ≡ b → has_partial_bit (option_map (attribute_of (kept_flags bits bit) kind) value) ≡ (is_some value && not b)
bit_by bits bit kind None b e = refl
bit_by bits bit kind (Some value) b e = with_bit (nat_lt 255 (length value)) b e
  where
    with_bit : (long b : Bool) → (bit_and bits bit == 0) ≡ b → not (bit_and (cond long (kept_flags bits bit + 16) (kept_flags bits bit)) 32 == 0) ≡ not b
    with_bit true true e = rw e refl
    with_bit true false e = rw e refl
    with_bit false true e = rw e refl
    with_bit false false e = rw e refl

and_same : (a b : Bool) → (a && (a && b)) ≡ (a && b)
and_same true b = refl
and_same false b = refl

pub bit_back : (bits bit kind : ℕ) (value : Option (List ℕ)) (counts : Bool) (attributes : List Attribute) → first_of kind attributes ≡ option_or (option_map (attribute_of (kept_flags bits bit) kind) value) None → counts ≡ is_some value
    → partial_bit counts kind bit attributes ≡ cond (counts && not (bit_and bits bit == 0)) bit 0
bit_back bits bit kind value counts attributes e is =
    let found = ap has_partial_bit (e ∙ or_none (option_map (attribute_of (kept_flags bits bit) kind) value)) ∙ bit_by bits bit kind value (bit_and bits bit == 0) refl in
    ap (λ (b : Bool). cond (counts && b) bit 0) (found ∙ ap (λ (c : Bool). c && not (bit_and bits bit == 0)) (sym is))
    ∙ ap (λ (b : Bool). cond b bit 0) (and_same counts (not (bit_and bits bit == 0)))

-- three bits are the number
three_bits : (bits : ℕ) → bits < 8 → (cond (not (bit_and bits 1 == 0)) 1 0 + cond (not (bit_and bits 2 == 0)) 2 0) + cond (not (bit_and bits 4 == 0)) 4 0 ≡ bits
three_bits zero h = refl
three_bits (suc zero) h = refl
three_bits (suc (suc zero)) h = refl
three_bits (suc (suc (suc zero))) h = refl
three_bits (suc (suc (suc (suc zero)))) h = refl
three_bits (suc (suc (suc (suc (suc zero))))) h = refl
three_bits (suc (suc (suc (suc (suc (suc zero)))))) h = refl
three_bits (suc (suc (suc (suc (suc (suc (suc zero))))))) h = refl
three_bits (suc (suc (suc (suc (suc (suc (suc (suc n)))))))) h = absurd (omega arith)

-- a bit stands only where its attribute is there
bit_counts : (n : ℕ) (counts : Bool) → (n ≢ 0 → counts ≡ true) → (b : Bool) → (n == 0) ≡ b → (counts && not b) ≡ not b
bit_counts n counts h true e = none counts
  where
    none : (c : Bool) → (c && false) ≡ false
    none true = refl
    none false = refl
bit_counts n counts h false e = let some : n ≢ 0 = λ z. let f : true ≡ false = ap (λ m. m == 0) (sym z) ∙ e in absurd cc in rw (h some) refl

filled_is : {X : Type 0} (xs : List X) → (xs ≡ [] → ⊥) → is_filled xs ≡ true
filled_is [] h = absurd (h refl)
filled_is (x ∷ xs) h = refl

pub bits_are : (attrs : Attrs) → IsPartial attrs →
    (cond (is_some attrs.aggregator && not (bit_and attrs.«partial» 1 == 0)) 1 0 + cond (is_filled attrs.communities && not (bit_and attrs.«partial» 2 == 0)) 2 0) + cond (is_filled attrs.large && not (bit_and attrs.«partial» 4 == 0)) 4 0 ≡ attrs.«partial»
bits_are attrs is =
    let one = bit_counts (bit_and attrs.«partial» 1) (is_some attrs.aggregator) is.aggregator (bit_and attrs.«partial» 1 == 0) refl in
    let two = bit_counts (bit_and attrs.«partial» 2) (is_filled attrs.communities) (λ some. filled_is attrs.communities (is.communities some)) (bit_and attrs.«partial» 2 == 0) refl in
    let four = bit_counts (bit_and attrs.«partial» 4) (is_filled attrs.large) (λ some. filled_is attrs.large (is.large some)) (bit_and attrs.«partial» 4 == 0) refl in
    rw (one, two, four) (three_bits attrs.«partial» is.below)
