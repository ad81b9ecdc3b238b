-- What was written, item by item, is cut into these items again.
use Rattle.std.proofs.Common.{◌≡◌, ◌∙◌, ℕ, ◌+◌, ◌*◌, ◌^◌, ◌<◌, ◌≤◌, Bool, true, false, List, [], ◌∷◌, ◌++◌, length, flat_map, map, Option, Some, refl, ap, arith, append_assoc, lit<}
use Rattle.std.specs.Prelude.{nat_lt}
use Rattle.std.specs.List.{AllByRecursion}
use Rattle.std.proofs.lemmas.Bool.Decides.{nat_tests}
use Rattle.byteorder.specs.Endian.{big_bytes}
use Rattle.wire_buf.specs.Field.{number_at}
use Rattle.wire_buf.specs.Written.{bytes_at-written, number_at-written}
use Rattle.attr_model.specs.declared.path.Segment.{Segment}
use Rattle.attr_model.specs.declared.path.Segment.TheVariants.{Set, Sequence}
use Rattle.attr_model.specs.Valid.{numbers_of as listed, IsSegment, IsPath}
use Rattle.attr_codec.specs.Cut.{Cut, behind, cut, all_items}
use Rattle.attr_codec.specs.Path.{as_size, numbers_in, segment_of, segment_parts_at, segment_at, path_of, exceeds, told_as, as_bytes, kind_of_segment, segment_bytes, path_bytes}
use Rattle.attr_codec.specs.Large.{large_at, larges_of}
use Rattle.attr_codec.specs.Written.{large_bytes}
use Rattle.attr_codec.specs.Field.{Attribute, length_size, attribute_at, attribute_bytes, HasItsLength}
use Rattle.attr_codec.specs.Width.{IsNumber, AreNumbers, AreSegments, IsLarge}
use Rattle.attr_codec.proofs.Cutting.{TakesBytes, cut_end, cut_found}
use Rattle.attr_codec.proofs.Fields.{number_takes, as_takes, segment_takes, large_takes, attribute_takes}
use Rattle.attr_codec.proofs.Lengths.{as_size_of}

module _ {X Y : Type 0} (item : List ℕ → Option (Y × List ℕ)) (takes : TakesBytes item) (bytes_of : X → List ℕ) (view : X → Y) (Fit : X → Type 0)
    (reads : (x : X) (rest : List ℕ) → Fit x → item (bytes_of x ++ rest) ≡ Some (view x, rest)) where
  pub cut_written : (xs : List X) → AllByRecursion Fit xs → cut item (flat_map bytes_of xs) ≡ record { items = map view xs; whole = true }
  cut_written [] fit = cut_end item
  cut_written (x ∷ xs) fit =
      let e = reads x (flat_map bytes_of xs) fit.0 in
      let shorter = takes (bytes_of x ++ flat_map bytes_of xs) (view x, flat_map bytes_of xs) e in
      cut_found item takes (bytes_of x ++ flat_map bytes_of xs) (view x) (flat_map bytes_of xs) (omega arith) e
      ∙ ap (λ (c : Cut Y). behind (view x ∷ []) c) (cut_written xs fit.1)

  pub items_written : (xs : List X) → AllByRecursion Fit xs → (cut item (flat_map bytes_of xs)).items ≡ map view xs
  items_written xs fit = ap (λ (c : Cut Y). c.items) (cut_written xs fit)

  pub all_written : (xs : List X) → AllByRecursion Fit xs → all_items item (flat_map bytes_of xs) ≡ Some (map view xs)
  all_written xs fit = rw (cut_written xs fit) refl

pub map_same : {X : Type 0} (f : X → X) → ((x : X) → f x ≡ x) → (xs : List X) → map f xs ≡ xs
map_same f same [] = refl
map_same f same (x ∷ xs) = rw (same x, map_same f same xs) refl

pub map_id : {X : Type 0} (xs : List X) → map (λ (x : X). x) xs ≡ xs
map_id xs = map_same (λ x. x) (λ x. refl) xs

-- ---- numbers

told_fits : (n : ℕ) (b : Bool) → exceeds n ≡ b → told_as false n < 2 ^ 16
told_fits n true e = rw e (lit< tt)
told_fits n false e = rw e (grind (arith, nat_tests))

pub as_back : (as4 : Bool) (n : ℕ) (rest : List ℕ) → IsNumber n → number_at (as_size as4) (as_bytes as4 n ++ rest) ≡ Some (told_as as4 n, rest)
as_back true n rest fit = number_at-written 4 n rest fit
as_back false n rest fit = number_at-written 2 (told_as false n) rest (told_fits n (exceeds n) refl)

pub numbers_back : (as4 : Bool) (ns : List ℕ) → AreNumbers ns → numbers_in (as_size as4) (flat_map (as_bytes as4) ns) ≡ map (told_as as4) ns
numbers_back as4 ns fit = items_written (number_at (as_size as4)) (as_takes as4) (as_bytes as4) (told_as as4) IsNumber (as_back as4) ns fit

pub u32s_back : (ns : List ℕ) → AreNumbers ns → numbers_in 4 (flat_map (big_bytes 4) ns) ≡ ns
u32s_back ns fit = items_written (number_at 4) (number_takes 4 (lit< tt)) (big_bytes 4) (λ n. n) IsNumber (λ n rest h. number_at-written 4 n rest h) ns fit ∙ map_id ns

-- ---- large communities

large_back : (l : ℕ × ℕ × ℕ) (rest : List ℕ) → IsLarge l → large_at (large_bytes l ++ rest) ≡ Some (l, rest)
unfolding large_at large_bytes
large_back l rest fit =
    let a = number_at-written 4 l.0 (big_bytes 4 l.1 ++ (big_bytes 4 l.2 ++ rest)) fit.0.0 in
    let b = number_at-written 4 l.1 (big_bytes 4 l.2 ++ rest) fit.0.1 in
    let d = number_at-written 4 l.2 rest fit.1 in
    rw (a, b, d) refl

pub larges_back : (ls : List (ℕ × ℕ × ℕ)) → AllByRecursion IsLarge ls → larges_of (flat_map large_bytes ls) ≡ ls
larges_back ls fit = items_written large_at large_takes large_bytes (λ l. l) IsLarge large_back ls fit ∙ map_id ls

-- ---- segments and paths

unfoldable pub told_segment : Bool → Segment → Segment
told_segment as4 (Set numbers) = Set (map (told_as as4) numbers)
told_segment as4 (Sequence numbers) = Sequence (map (told_as as4) numbers)

pub byte_there : (b : ℕ) (bytes : List ℕ) → number_at 1 (b ∷ bytes) ≡ Some (b, bytes)
byte_there b bytes =
    let t : nat_lt (length (b ∷ bytes)) 1 ≡ false = grind (arith, nat_tests) in
    let v : b * 1 + 0 ≡ b = omega arith in
    rw (t, v) refl

parts_back : (as4 : Bool) (kind : ℕ) (ns rest : List ℕ) → segment_parts_at as4 (kind ∷ length ns ∷ (flat_map (as_bytes as4) ns ++ rest)) ≡ Some ((kind, flat_map (as_bytes as4) ns), rest)
unfolding segment_parts_at
parts_back as4 kind ns rest =
    rw (byte_there kind (length ns ∷ (flat_map (as_bytes as4) ns ++ rest)), byte_there (length ns) (flat_map (as_bytes as4) ns ++ rest), bytes_at-written (length ns * as_size as4) (flat_map (as_bytes as4) ns) rest (as_size_of as4 ns)) refl

segment_there : (as4 : Bool) (s : Segment) → IsSegment s → AreNumbers (listed s) → segment_of (kind_of_segment s) (map (told_as as4) (listed s)) ≡ Some (told_segment as4 s)
unfolding told_segment
segment_there as4 (Set []) is fit = let some : 1 ≤ 0 = is.some in absurd (omega arith)
segment_there as4 (Set (n ∷ ns)) is fit = refl
segment_there as4 (Sequence []) is fit = let some : 1 ≤ 0 = is.some in absurd (omega arith)
segment_there as4 (Sequence (n ∷ ns)) is fit = refl

-- a segment that is one, of numbers that have their width
pub record Fits (s : Segment) : Type 0 where
  pub is_one : IsSegment s
  pub width : AreNumbers (listed s)

segment_back : (as4 : Bool) (s : Segment) (rest : List ℕ) → Fits s → segment_at as4 (segment_bytes as4 s ++ rest) ≡ Some (told_segment as4 s, rest)
unfolding segment_at
segment_back as4 s rest fit =
    rw (parts_back as4 (kind_of_segment s) (listed s) rest, numbers_back as4 (listed s) fit.width, segment_there as4 s fit.is_one fit.width) refl

pub all_fit : (path : List Segment) → IsPath path → AreSegments path → AllByRecursion Fits path
all_fit [] is fit = tt
all_fit (s ∷ path) is fit = (record { is_one = is.0; width = fit.0 }, all_fit path is.1 fit.1)

pub path_back : (as4 : Bool) (path : List Segment) → IsPath path → AreSegments path → path_of as4 (path_bytes as4 path) ≡ Some (map (told_segment as4) path)
path_back as4 path is fit = all_written (segment_at as4) (segment_takes as4) (segment_bytes as4) (told_segment as4) Fits (segment_back as4) path (all_fit path is fit)

-- ---- attributes

pub attribute_back : (a : Attribute) (rest : List ℕ) → length a.value < 256 ^ length_size a.flags → attribute_at (attribute_bytes a ++ rest) ≡ Some (a, rest)
unfolding attribute_at
attribute_back a rest fit =
    let whole : attribute_bytes a ++ rest ≡ a.flags ∷ a.kind ∷ (big_bytes (length_size a.flags) (length a.value) ++ (a.value ++ rest)) = ap (λ (l : List ℕ). a.flags ∷ a.kind ∷ l) (append_assoc (big_bytes (length_size a.flags) (length a.value)) a.value rest) in
    ap attribute_at whole
    ∙ rw (byte_there a.flags (a.kind ∷ (big_bytes (length_size a.flags) (length a.value) ++ (a.value ++ rest))), byte_there a.kind (big_bytes (length_size a.flags) (length a.value) ++ (a.value ++ rest)), number_at-written (length_size a.flags) (length a.value) (a.value ++ rest) fit, bytes_at-written (length a.value) a.value rest refl) refl

pub attributes_back : (xs : List Attribute) → AllByRecursion HasItsLength xs → cut attribute_at (flat_map attribute_bytes xs) ≡ record { items = xs; whole = true }
attributes_back xs fit =
    cut_written attribute_at attribute_takes attribute_bytes (λ a. a) HasItsLength attribute_back xs fit ∙ ap (λ (items : List Attribute). record { items = items; whole = true }) (map_id xs)
