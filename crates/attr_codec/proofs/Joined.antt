-- A joined path has the length of AS_PATH.
use Rattle.std.proofs.Common.{◌≡◌, ◌∙◌, ℕ, ◌+◌, ◌-◌, ◌≤◌, ◌<◌, Bool, true, false, cond, eqb, List, [], ◌∷◌, ◌++◌, refl, sym, arith}
use Rattle.std.specs.Prelude.{nat_lt}
use Rattle.std.proofs.lemmas.Bool.{eqb-true, eqb-false}
use Rattle.std.proofs.lemmas.Bool.Decides.{nat_tests}
use Rattle.std.proofs.lemmas.List.Sums.{sum_by-append, sum_by-cons}
use Rattle.std.proofs.lemmas.List.{length-take, length-take-le}
use Rattle.attr_model.specs.declared.path.Segment.{Segment}
use Rattle.attr_model.specs.declared.path.Segment.TheVariants.{Set, Sequence}
use Rattle.attr_model.specs.Path.{count_of, path_length}
use Rattle.attr_codec.specs.Values.{leading_part, leading, joined_paths}

length_append : (xs ys : List Segment) → path_length (xs ++ ys) ≡ path_length xs + path_length ys
length_append xs ys = sum_by-append count_of xs ys

-- what a part of a segment counts
part_counts : (n : ℕ) (s : Segment) → 0 < n → n ≤ count_of s → count_of (leading_part n s) ≡ n
part_counts n (Set numbers) some h = omega (arith, some, h)
part_counts n (Sequence numbers) some h = length-take-le n numbers h

whole_counts : (n : ℕ) (s : Segment) → count_of s < n → count_of (leading_part n s) ≡ count_of s
whole_counts n (Set numbers) h = refl
whole_counts n (Sequence numbers) h = omega (arith, h, length-take n numbers)

front_length : (n : ℕ) (s : Segment) (rest : ℕ) → rest ≡ n - count_of s → 0 < n → (b : Bool) → nat_lt (count_of s) n ≡ b → count_of (leading_part n s) + rest ≡ n
front_length n s rest is some true e =
    let less : count_of s < n = grind (arith, nat_tests, e) in
    let whole = whole_counts n s less in
    omega (arith, whole, is, less)
front_length n s rest is some false e =
    let enough : n ≤ count_of s = grind (arith, nat_tests, e) in
    let part = part_counts n s some enough in
    omega (arith, part, is, enough)

-- the leading part of a path that is long enough has the wanted length
leading_by : (n : ℕ) (s : Segment) (path : List Segment) → path_length (leading (n - count_of s) path) ≡ n - count_of s → (b : Bool) → eqb n 0 ≡ b
    → path_length (cond b [] (leading_part n s ∷ leading (n - count_of s) path)) ≡ n
leading_by n s path rest true e = sym (eqb-true n 0 e)
leading_by n s path rest false e =
    let some : 0 < n = omega (arith, eqb-false n 0 e) in
    sum_by-cons count_of (leading_part n s) (leading (n - count_of s) path) ∙ front_length n s (path_length (leading (n - count_of s) path)) rest some (nat_lt (count_of s) n) refl

leading_length : (n : ℕ) (path : List Segment) → n ≤ path_length path → path_length (leading n path) ≡ n
leading_length n [] h = omega (arith, h)
leading_length n (s ∷ path) h =
    let all : path_length (s ∷ path) ≡ count_of s + path_length path = sum_by-cons count_of s path in
    let within : n - count_of s ≤ path_length path = omega (arith, h, all) in
    leading_by n s path (leading_length (n - count_of s) path within) (eqb n 0) refl

pub joined_length : (path as4_path : List Segment) → path_length (joined_paths path as4_path) ≡ path_length path
joined_length path as4_path = by (nat_lt (path_length path) (path_length as4_path)) refl
  where
    by : (b : Bool) → nat_lt (path_length path) (path_length as4_path) ≡ b → path_length (cond b path (leading (path_length path - path_length as4_path) path ++ as4_path)) ≡ path_length path
    by true e = refl
    by false e =
        let within : path_length as4_path ≤ path_length path = grind (arith, nat_tests, e) in
        let front = leading_length (path_length path - path_length as4_path) path (omega arith) in
        length_append (leading (path_length path - path_length as4_path) path) as4_path ∙ omega (arith, front, within)
