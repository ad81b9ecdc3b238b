-- The first numbers of a path, segment by segment.
use Rattle.std.proofs.Common.{◌≡◌, ℕ, zero, suc, ◌+◌, ◌-◌, ◌<◌, Bool, true, false, ◌||◌, List, [], ◌∷◌, ◌++◌, length, get_or, take, drop, refl, sym, ap, ◌∙◌, arith}
use Rattle.std.specs.List.{list_any}
use Rattle.std.proofs.lemmas.List.{drop_more}
use Rattle.attr_model.specs.declared.path.Segment.{Segment}
use Rattle.attr_model.specs.Valid.{numbers_of}
use Rattle.filter_engine.specs.Conditions.{path_numbers}

or_assoc : (a b c : Bool) → (a || (b || c)) ≡ ((a || b) || c)
or_assoc true b c = refl
or_assoc false b c = refl

module _ (p : ℕ → Bool) where
  -- the first numbers of two lists are those of the one, and then those of the other
  any_front : (most : ℕ) (xs ys : List ℕ) → list_any p (take most (xs ++ ys)) ≡ (list_any p (take most xs) || list_any p (take (most - length (take most xs)) ys))
  any_front zero [] ys = refl
  any_front zero (x ∷ xs) ys = refl
  any_front (suc n) [] ys = let e : suc n - 0 ≡ suc n = omega arith in ap (λ k. list_any p (take k ys)) (sym e)
  any_front (suc n) (x ∷ xs) ys =
      let e : suc n - suc (length (take n xs)) ≡ n - length (take n xs) = omega arith in
      ap (λ b. p x || b) (any_front n xs ys)
      ∙ (or_assoc (p x) (list_any p (take n xs)) (list_any p (take (n - length (take n xs)) ys))
      ∙ ap (λ k. (p x || list_any p (take n xs)) || list_any p (take k ys)) (sym e))

  abbrev any_left : ℕ → List Segment → Bool
  any_left most path = list_any p (take most (path_numbers path))

  split : (path : List Segment) (i most : ℕ) (segment : Segment) (front : List ℕ) → i < length path → segment ≡ get_or path i segment → front ≡ take most (numbers_of segment)
      → any_left most (drop i path) ≡ (list_any p front || any_left (most - length front) (drop (i + 1) path))
  split path i most segment front h is e =
      let rest = path_numbers (drop (i + 1) path) in
      ap (any_left most) (drop_more path i segment h ∙ ap (λ (s : Segment). s ∷ drop (i + 1) path) (sym is))
      ∙ (any_front most (numbers_of segment) rest
      ∙ ap (λ (f : List ℕ). list_any p f || list_any p (take (most - length f) rest)) (sym e))

  -- one segment more, with and without such a number among its first
  pub found_here : (path : List Segment) (i most : ℕ) (segment : Segment) (front : List ℕ) → i < length path → segment ≡ get_or path i segment → front ≡ take most (numbers_of segment)
      → list_any p front ≡ true → true ≡ any_left most (drop i path)
  found_here path i most segment front h is e here = sym (split path i most segment front h is e ∙ ap (λ b. b || any_left (most - length front) (drop (i + 1) path)) here)

  pub not_here : (path : List Segment) (i most : ℕ) (segment : Segment) (front : List ℕ) → i < length path → segment ≡ get_or path i segment → front ≡ take most (numbers_of segment)
      → list_any p front ≡ false → any_left (most - length front) (drop (i + 1) path) ≡ any_left most (drop i path)
  not_here path i most segment front h is e absent = sym (split path i most segment front h is e ∙ ap (λ b. b || any_left (most - length front) (drop (i + 1) path)) absent)
