-- Numbers put in front of a path one at a time fill its first sequence, and then make one of their own.
use Rattle.std.proofs.Common.{Some, None, ◌≡◌, ℕ, zero, suc, ◌+◌, ◌-◌, ◌≤◌, ◌<◌, min, set, List, [], ◌∷◌, ◌++◌, length, refl, sym, ap, ◌∙◌, zero-add, arith}
use Rattle.std.specs.Prelude.{replicate}
use Rattle.std.proofs.Math.Nat.{suc-add}
use Rattle.std.proofs.lemmas.Bool.{lt-ltb, le-ltb}
use Rattle.std.proofs.lemmas.List.{length-replicate, length-append}
use Rattle.attr_model.specs.declared.path.Segment.{Segment}
use Rattle.attr_model.specs.declared.path.Segment.TheVariants.{Set, Sequence}
use Rattle.attr_model.specs.Path.{front_numbers, prepended_once, prepended, begun}

once_more : (asn : ℕ) (numbers : List ℕ) (rest : List Segment) → length numbers < 255 → prepended_once asn (Sequence numbers ∷ rest) ≡ Sequence (asn ∷ numbers) ∷ rest
once_more asn numbers rest h = rw (lt-ltb _ _ h) refl

once_new : (asn : ℕ) (numbers : List ℕ) (rest : List Segment) → 255 ≤ length numbers → prepended_once asn (Sequence numbers ∷ rest) ≡ Sequence (asn ∷ []) ∷ (Sequence numbers ∷ rest)
once_new asn numbers rest h = rw (le-ltb _ _ h) refl

-- a sequence with room for them takes the numbers
pub filled : (asn times : ℕ) (numbers : List ℕ) (rest : List Segment) → times + length numbers ≤ 255 → prepended asn times (Sequence numbers ∷ rest) ≡ Sequence (replicate times asn ++ numbers) ∷ rest
filled asn zero numbers rest h = refl
filled asn (suc times) numbers rest h =
    let before = filled asn times numbers rest (omega arith) in
    ap (prepended_once asn) before ∙ once_more asn (replicate times asn ++ numbers) rest (omega (arith, length-append (replicate times asn) numbers, length-replicate times asn))

-- where the front has no room, the numbers make a sequence of their own
pub not_filled : (asn times : ℕ) (path : List Segment) → times ≤ 255 → prepended_once asn path ≡ Sequence (asn ∷ []) ∷ path → prepended asn times path ≡ begun asn times path
not_filled asn zero path h full = refl
not_filled asn (suc zero) path h full = full
not_filled asn (suc (suc times)) path h full =
    let before = not_filled asn (suc times) path (omega arith) full in
    ap (prepended_once asn) before ∙ once_more asn (replicate (suc times) asn) path (omega (arith, length-replicate (suc times) asn))

prepended-plus : (asn a b : ℕ) (path : List Segment) → prepended asn (a + b) path ≡ prepended asn a (prepended asn b path)
prepended-plus asn zero b path = ap (λ n. prepended asn n path) (zero-add b)
prepended-plus asn (suc a) b path = ap (λ n. prepended asn n path) (suc-add a b) ∙ ap (prepended_once asn) (prepended-plus asn a b path)

none_or_filled : (asn f : ℕ) (numbers : List ℕ) (rest : List Segment) → (0 < f → f + length numbers ≤ 255) → prepended asn f (Sequence numbers ∷ rest) ≡ Sequence (replicate f asn ++ numbers) ∷ rest
none_or_filled asn zero numbers rest h = refl
none_or_filled asn (suc f) numbers rest h = filled asn (suc f) numbers rest (h (omega arith))

none_or_new : (asn more : ℕ) (numbers : List ℕ) (rest : List Segment) → more ≤ 255 → (0 < more → 255 ≤ length numbers) → prepended asn more (Sequence numbers ∷ rest) ≡ begun asn more (Sequence numbers ∷ rest)
none_or_new asn zero numbers rest h full = refl
none_or_new asn (suc more) numbers rest h full = not_filled asn (suc more) (Sequence numbers ∷ rest) h (once_new asn numbers rest (full (omega arith)))

-- A sequence in front is filled as far as it goes, and what is left makes one of its own.
filled_first : (asn times : ℕ) (numbers : List ℕ) (rest : List Segment) (f : ℕ) → times ≤ 255 → f ≡ min times (255 - length numbers) → prepended asn times (Sequence numbers ∷ rest) ≡ begun asn (times - f) (Sequence (replicate f asn ++ numbers) ∷ rest)
filled_first asn times numbers rest f h e =
    let parts : times ≡ (times - f) + f = omega arith in
    let split = ap (λ n. prepended asn n (Sequence numbers ∷ rest)) parts ∙ prepended-plus asn (times - f) f (Sequence numbers ∷ rest) in
    let first = none_or_filled asn f numbers rest (λ some. omega arith) in
    let long : length (replicate f asn ++ numbers) ≡ f + length numbers = omega (arith, length-append (replicate f asn) numbers, length-replicate f asn) in
    split ∙ ap (prepended asn (times - f)) first ∙ none_or_new asn (times - f) (replicate f asn ++ numbers) rest (omega arith) (λ some. omega arith)

-- the front stands behind what was begun
set_begun : (asn more place : ℕ) (old new : Segment) (rest : List Segment) → place ≡ min more 1 → set (begun asn more (old ∷ rest)) place new ≡ begun asn more (new ∷ rest)
set_begun asn zero place old new rest e = let first : place ≡ 0 = omega arith in rw first refl
set_begun asn (suc more) place old new rest e = let second : place ≡ 1 = omega arith in rw second refl

-- what is done where no sequence stands in front
pub without_front : (asn times : ℕ) (path : List Segment) → front_numbers path ≡ None → times ≤ 255 → begun asn times path ≡ prepended asn times path
without_front asn times [] e h = sym (not_filled asn times [] h refl)
without_front asn times (Set numbers ∷ rest) e h = sym (not_filled asn times (Set numbers ∷ rest) h refl)
without_front asn times (Sequence numbers ∷ rest) e h = absurd cc

-- what is done where one does
pub with_front : (asn times f place : ℕ) (numbers : List ℕ) (path : List Segment) → front_numbers path ≡ Some numbers → times ≤ 255 → f ≡ min times (255 - length numbers) → place ≡ min (times - f) 1 → set (begun asn (times - f) path) place (Sequence (replicate f asn ++ numbers)) ≡ prepended asn times path
with_front asn times f place numbers [] e h least at = absurd cc
with_front asn times f place numbers (Set others ∷ rest) e h least at = absurd cc
with_front asn times f place numbers (Sequence others ∷ rest) e h least at =
    let same : others ≡ numbers = cc in
    rw same (set_begun asn (times - f) place (Sequence numbers) (Sequence (replicate f asn ++ numbers)) rest at ∙ sym (filled_first asn times numbers rest f h least))
