-- The last number of a path, found segment by segment.
use Rattle.std.proofs.Common.{◌≡◌, ℕ, suc, ◌+◌, ◌-◌, ◌<◌, Bool, false, List, [], ◌∷◌, ◌++◌, Option, length, get_or, drop, refl, sym, ap, ◌∙◌, arith}
use Rattle.std.specs.Prelude.{slice_get}
use Rattle.std.specs.List.{list_any}
use Rattle.std.specs.Option.{option_or, option_map_or}
use Rattle.std.proofs.Math.Bool.{or-false}
use Rattle.std.proofs.lemmas.List.{drop_more}
use Rattle.attr_model.specs.declared.path.Segment.{Segment}
use Rattle.attr_model.specs.Valid.{numbers_of}
use Rattle.filter_engine.specs.Conditions.{path_numbers}
use Rattle.filter_engine.specs.Wanted.{last_of}

last_cons : (x y : ℕ) (ys : List ℕ) → last_of (x ∷ y ∷ ys) ≡ last_of (y ∷ ys)
last_cons x y ys =
    let longer : length (x ∷ y ∷ ys) - 1 ≡ suc (length ys) = omega arith in
    let shorter : length (y ∷ ys) - 1 ≡ length ys = omega arith in
    ap (slice_get (x ∷ y ∷ ys)) longer ∙ ap (slice_get (y ∷ ys)) (sym shorter)

last-append : (xs : List ℕ) (y : ℕ) (ys : List ℕ) → last_of (xs ++ y ∷ ys) ≡ last_of (y ∷ ys)
last-append [] y ys = refl
last-append (x ∷ []) y ys = last_cons x y ys
last-append (x ∷ z ∷ xs) y ys = last_cons x z (xs ++ y ∷ ys) ∙ last-append (z ∷ xs) y ys

some_last : (y : ℕ) (ys : List ℕ) (o : Option ℕ) → option_or (last_of (y ∷ ys)) o ≡ last_of (y ∷ ys)
some_last y [] o = refl
some_last y (z ∷ ys) o = ap (λ l. option_or l o) (last_cons y z ys) ∙ (some_last z ys o ∙ sym (last_cons y z ys))

append-nil : (xs : List ℕ) → xs ++ [] ≡ xs
append-nil [] = refl
append-nil (x ∷ xs) = ap (λ (ys : List ℕ). x ∷ ys) (append-nil xs)

-- the last of two lists, or what was found before
pub last_or-append : (xs ys : List ℕ) (o : Option ℕ) → option_or (last_of (xs ++ ys)) o ≡ option_or (last_of ys) (option_or (last_of xs) o)
last_or-append xs [] o = ap (λ zs. option_or (last_of zs) o) (append-nil xs)
last_or-append xs (y ∷ ys) o = ap (λ l. option_or l o) (last-append xs y ys) ∙ (some_last y ys o ∙ sym (some_last y ys (option_or (last_of xs) o)))

-- one segment more
pub segment_more : (path : List Segment) (i : ℕ) (segment : Segment) (found before : Option ℕ) → i < length path → segment ≡ get_or path i segment → found ≡ last_of (numbers_of segment)
    → option_or (last_of (path_numbers (drop (i + 1) path))) (option_or found before) ≡ option_or (last_of (path_numbers (drop i path))) before
segment_more path i segment found before h is e =
    let rest = path_numbers (drop (i + 1) path) in
    ap (λ o. option_or (last_of rest) (option_or o before)) e
    ∙ (sym (last_or-append (numbers_of segment) rest before)
    ∙ ap (λ left. option_or (last_of (path_numbers left)) before) (ap (λ (s : Segment). s ∷ drop (i + 1) path) is ∙ sym (drop_more path i segment h)))

-- the numbers from the last on are the last alone
pub any_last : (p : ℕ → Bool) (xs : List ℕ) → list_any p (drop (length xs - 1) xs) ≡ option_map_or p (last_of xs) false
any_last p [] = refl
any_last p (x ∷ []) = or-false (p x)
any_last p (x ∷ y ∷ xs) =
    let longer : length (x ∷ y ∷ xs) - 1 ≡ suc (length xs) = omega arith in
    let shorter : length (y ∷ xs) - 1 ≡ length xs = omega arith in
    ap (λ n. list_any p (drop n (x ∷ y ∷ xs))) longer
    ∙ (ap (λ n. list_any p (drop n (y ∷ xs))) (sym shorter)
    ∙ (any_last p (y ∷ xs) ∙ ap (λ l. option_map_or p l false) (sym (last_cons x y xs))))
