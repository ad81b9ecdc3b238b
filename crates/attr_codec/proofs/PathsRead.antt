-- A path that is read is made of segments, and so are two that are joined.
use Rattle.std.proofs.Common.{◌≡◌, ◌∙◌, ℕ, zero, suc, ◌+◌, ◌-◌, ◌*◌, ◌≤◌, ◌<◌, Bool, true, false, cond, List, [], ◌∷◌, ◌++◌, length, take, drop, Option, Some, None, refl, sym, arith, length-take}
use Rattle.std.proofs.Math.Nat.{suc-mul}
use Rattle.std.specs.Prelude.{nat_lt, nat_eq, ◌==◌, IfSome}
use Rattle.std.proofs.lemmas.Option.{none-some, option_and_then_some}
use Rattle.std.proofs.lemmas.Bool.Decides.{nat_tests}
use Rattle.wire_buf.specs.Field.{number_at, bytes_at}
use Rattle.bgp_wire.specs.Message.{AreBytes}
use Rattle.attr_model.specs.declared.path.Segment.{Segment}
use Rattle.attr_model.specs.declared.path.Segment.TheVariants.{Set, Sequence}
use Rattle.attr_model.specs.Path.{count_of, path_length}
use Rattle.attr_model.specs.Valid.{IsSegment, IsPath}
use Rattle.attr_codec.specs.Cut.{Cut, all_cut, cut_short, cut_in, cut}
use Rattle.attr_codec.specs.Path.{as_size, numbers_in, segment_of, segment_parts_at, segment_at, path_of}
use Rattle.attr_codec.specs.Values.{leading_part, leading, joined_paths}
use Rattle.attr_codec.proofs.Appends.{all_append}
use Rattle.attr_codec.proofs.Bytes.{number_rest, field_parts}
use Rattle.attr_codec.proofs.CutItems.{all_are}
use Rattle.attr_codec.proofs.Cutting.{cut_by}
use Rattle.attr_codec.proofs.ItemsBack.{byte_there}
use Rattle.attr_codec.proofs.Fields.{guarded, number_leaves}

-- ---- a segment has as many numbers as its count says

-- numbers of a size are no more than the bytes have room for
room_by : (size : ℕ) (bytes : List ℕ) (rest : List ℕ → Cut ℕ) → ((more : List ℕ) → length (rest more).items * size ≤ length more) → (o : Option (ℕ × List ℕ)) → number_at size bytes ≡ o → length (cut_by rest o).items * size ≤ length bytes
room_by size bytes rest others None e = omega arith
room_by size bytes rest others (Some found) e =
    let leaves = number_leaves size bytes found e in
    let behind = others found.1 in
    let more : length (found.0 ∷ (rest found.1).items) * size ≡ length (rest found.1).items * size + size = suc-mul (length (rest found.1).items) size in
    omega arith

front_by : (size : ℕ) (bytes : List ℕ) (b : Bool) (c : Cut ℕ) → length c.items * size ≤ length bytes → length (cond b all_cut c).items * size ≤ length bytes
front_by size bytes true c h = omega arith
front_by size bytes false c h = h

room_in : (size n : ℕ) (bytes : List ℕ) → length (cut_in (number_at size) n bytes).items * size ≤ length bytes
unfolding cut_in
room_in size zero bytes = front_by size bytes (length bytes == 0) cut_short (omega arith)
room_in size (suc n) bytes =
    front_by size bytes (length bytes == 0) (cut_by (cut_in (number_at size) n) (number_at size bytes)) (room_by size bytes (cut_in (number_at size) n) (λ more. room_in size n more) (number_at size bytes) refl)

room : (size : ℕ) (bytes : List ℕ) → length (numbers_in size bytes) * size ≤ length bytes
unfolding cut
room size bytes = room_in size (length bytes) bytes

few_numbers : (as4 : Bool) (count : ℕ) (bytes : List ℕ) → length bytes ≡ count * as_size as4 → length (numbers_in (as_size as4) bytes) ≤ count
few_numbers true count bytes e = omega (arith, room 4 bytes)
few_numbers false count bytes e = omega (arith, room 2 bytes)

-- ---- a segment that is read

field_length : (n : ℕ) (bytes : List ℕ) (x : List ℕ × List ℕ) → bytes_at n bytes ≡ Some x → length x.0 ≡ n
field_length n bytes x e =
    let g = guarded (nat_lt (length bytes) n) (take n bytes, drop n bytes) x e in
    let enough : n ≤ length bytes = grind (arith, nat_tests, g.0) in
    rw (← g.1) (omega (arith, length-take n bytes))

-- the parts of a segment
pub record AreParts (as4 : Bool) (x : (ℕ × List ℕ) × List ℕ) : Type 0 where
  pub few : length (numbers_in (as_size as4) x.0.1) ≤ 255
  pub rest : AreBytes x.1

first_byte : (bytes : List ℕ) (x : ℕ × List ℕ) → AreBytes bytes → number_at 1 bytes ≡ Some x → x.0 < 256
first_byte [] x are e = absurd (none-some x e)
first_byte (b ∷ bs) x are e =
    let found : Some (b, bs) ≡ Some x = sym (byte_there b bs) ∙ e in
    let same : (b, bs) ≡ x = cc in
    rw (← same) (are 0)

parts_are : (as4 : Bool) (bytes : List ℕ) (x : (ℕ × List ℕ) × List ℕ) → AreBytes bytes → segment_parts_at as4 bytes ≡ Some x → AreParts as4 x
unfolding segment_parts_at
parts_are as4 bytes x are e =
    option_and_then_some _ (number_at 1 bytes) x e (λ kind hk h1.
    option_and_then_some _ (number_at 1 kind.1) x h1 (λ count hc h2.
    option_and_then_some _ (bytes_at (count.0 * as_size as4) count.1) x h2 (λ numbers hn h3.
    let behind = number_rest 1 bytes kind are hk in
    let count_is = first_byte kind.1 count behind hc in
    let parts = field_parts (count.0 * as_size as4) count.1 numbers (number_rest 1 kind.1 count behind hc) hn in
    let few = few_numbers as4 count.0 numbers.0 (field_length (count.0 * as_size as4) count.1 numbers hn) in
    let same : ((kind.0, numbers.0), numbers.1) ≡ x = cc in
    rw (← same) (record { few = omega arith; rest = parts.1 }))))

segment_is : (kind : ℕ) (numbers : List ℕ) (s : Segment) → length numbers ≤ 255 → segment_of kind numbers ≡ Some s → IsSegment s
segment_is kind [] s h e = absurd (none-some s e)
segment_is kind (n ∷ ns) s h e = by (nat_eq kind 1) (nat_eq kind 2) e
  where
    by : (a b : Bool) → cond a (Some (Set (n ∷ ns))) (cond b (Some (Sequence (n ∷ ns))) None) ≡ Some s → IsSegment s
    by true b f = let same : Set (n ∷ ns) ≡ s = cc in rw (← same) (record { some = omega arith; counted = h })
    by false true f = let same : Sequence (n ∷ ns) ≡ s = cc in rw (← same) (record { some = omega arith; counted = h })
    by false false f = absurd (none-some s f)

segment_read : (as4 : Bool) (bytes : List ℕ) (found : Segment × List ℕ) → AreBytes bytes → segment_at as4 bytes ≡ Some found → IsSegment found.0 × AreBytes found.1
unfolding segment_at
segment_read as4 bytes found are e =
    option_and_then_some _ (segment_parts_at as4 bytes) found e (λ parts hp h1.
    option_and_then_some _ (segment_of parts.0.0 (numbers_in (as_size as4) parts.0.1)) found h1 (λ segment hs h2.
    let is = parts_are as4 bytes parts are hp in
    let one = segment_is parts.0.0 (numbers_in (as_size as4) parts.0.1) segment is.few hs in
    let same : (segment, parts.1) ≡ found = cc in
    rw (← same) (one, is.rest)))

pub path_read : (as4 : Bool) (bytes : List ℕ) → AreBytes bytes → IfSome (path_of as4 bytes) IsPath
path_read as4 bytes are = all_are (segment_at as4) IsSegment AreBytes (segment_read as4) bytes are

-- ---- paths that are joined

part_is : (n : ℕ) (s : Segment) → 0 < n → IsSegment s → IsSegment (leading_part n s)
part_is n (Set numbers) h is = is
part_is n (Sequence numbers) h is =
    let some : 1 ≤ length numbers = is.some in
    let counted : length numbers ≤ 255 = is.counted in
    record { some = omega (arith, length-take n numbers); counted = omega (arith, length-take n numbers) }

leading_is : (n : ℕ) (path : List Segment) → IsPath path → IsPath (leading n path)
leading_is n [] is = tt
leading_is n (s ∷ path) is = by (nat_eq n 0) refl (leading_is (n - count_of s) path is.1)
  where
    by : (b : Bool) → nat_eq n 0 ≡ b → IsPath (leading (n - count_of s) path) → IsPath (cond b [] (leading_part n s ∷ leading (n - count_of s) path))
    by true e rest = tt
    by false e rest = let some : 0 < n = grind (arith, nat_tests) in (part_is n s some is.0, rest)

pub joined_is : (path as4_path : List Segment) → IsPath path → IsPath as4_path → IsPath (joined_paths path as4_path)
joined_is path as4_path is as4_is =
    by (nat_lt (path_length path) (path_length as4_path)) (all_append IsSegment (leading (path_length path - path_length as4_path) path) as4_path (leading_is (path_length path - path_length as4_path) path is) as4_is)
  where
    by : (b : Bool) → IsPath (leading (path_length path - path_length as4_path) path ++ as4_path) → IsPath (cond b path (leading (path_length path - path_length as4_path) path ++ as4_path))
    by true h = is
    by false h = h
