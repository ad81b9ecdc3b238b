-- The numbers of all entries of a list in all.
use Rattle.std.proofs.Common.{◌≡◌, ℕ, ◌+◌, ◌*◌, ◌≤◌, Bool, true, false, cond, List, [], ◌∷◌, ◌++◌, length, map, flat_map, Option, Some, None, refl, arith}
use Rattle.std.specs.Prelude.{filter, filter_map}
use Rattle.std.specs.List.{cons_option}
use Rattle.std.proofs.Math.Nat.{mul-add}
use Rattle.conf_tree.specs.Readable.{Each, total}

-- 1 where a test holds
abbrev pub one : Bool → ℕ
one true = 1
one false = 0

-- the number of a value that is there
abbrev pub there : {A : Type 0} → (A → ℕ) → Option A → ℕ
there count None = 0
there count (Some x) = count x

module _ {A : Type 0} where
  pub total_same : (f g : A → ℕ) (xs : List A) → ((x : A) → f x ≡ g x) → total f xs ≡ total g xs
  total_same f g [] h = refl
  total_same f g (x ∷ xs) h = omega (arith, h x, total_same f g xs h)

  pub total_le : (f g : A → ℕ) (xs : List A) → ((x : A) → f x ≤ g x) → total f xs ≤ total g xs
  total_le f g [] h = omega arith
  total_le f g (x ∷ xs) h = omega (arith, h x, total_le f g xs h)

  pub total_le_each : (Is : A → Type 0) (f g : A → ℕ) (xs : List A) → ((x : A) → Is x → f x ≤ g x) → Each Is xs → total f xs ≤ total g xs
  total_le_each Is f g [] h each = omega arith
  total_le_each Is f g (x ∷ xs) h each = omega (arith, h x each.0, total_le_each Is f g xs h each.1)

  pub total_both : (f g : A → ℕ) (xs : List A) → total (λ x. f x + g x) xs ≡ total f xs + total g xs
  total_both f g [] = omega arith
  total_both f g (x ∷ xs) = omega (arith, total_both f g xs)

  pub total_none : (xs : List A) → total (λ x. 0) xs ≡ 0
  total_none [] = refl
  total_none (x ∷ xs) = omega (arith, total_none xs)

  pub total_ones : (xs : List A) → total (λ x. 1) xs ≡ length xs
  total_ones [] = refl
  total_ones (x ∷ xs) = omega (arith, total_ones xs)

  pub total_times : (k : ℕ) (f : A → ℕ) (xs : List A) → total (λ x. k * f x) xs ≡ k * total f xs
  total_times k f [] = omega arith
  total_times k f (x ∷ xs) = rw (mul-add k (f x) (total f xs)) (omega (arith, total_times k f xs))

  pub total_append : (f : A → ℕ) (xs ys : List A) → total f (xs ++ ys) ≡ total f xs + total f ys
  total_append f [] ys = omega arith
  total_append f (x ∷ xs) ys = omega (arith, total_append f xs ys)

  pub length_filter : (test : A → Bool) (xs : List A) → length (filter test xs) ≡ total (λ x. one (test x)) xs
  length_filter test [] = refl
  length_filter test (x ∷ xs) = by (test x) (length_filter test xs)
    where
      by : (b : Bool) → length (filter test xs) ≡ total (λ x. one (test x)) xs → length (cond b (x ∷ filter test xs) (filter test xs)) ≡ one b + total (λ x. one (test x)) xs
      by true h = omega (arith, h)
      by false h = omega (arith, h)

module _ {A B : Type 0} where
  pub total_map : (count : B → ℕ) (f : A → B) (xs : List A) → total count (map f xs) ≡ total (λ x. count (f x)) xs
  total_map count f [] = refl
  total_map count f (x ∷ xs) = omega (arith, total_map count f xs)

  pub total_flat_map : (count : B → ℕ) (f : A → List B) (xs : List A) → total count (flat_map f xs) ≡ total (λ x. total count (f x)) xs
  total_flat_map count f [] = refl
  total_flat_map count f (x ∷ xs) = omega (arith, total_append count (f x) (flat_map f xs), total_flat_map count f xs)

  pub total_filter_map : (count : B → ℕ) (f : A → Option B) (xs : List A) → total count (filter_map f xs) ≡ total (λ x. there count (f x)) xs
  total_filter_map count f [] = refl
  total_filter_map count f (x ∷ xs) = by (f x) (total_filter_map count f xs)
    where
      by : (o : Option B) → total count (filter_map f xs) ≡ total (λ x. there count (f x)) xs → total count (cons_option o (filter_map f xs)) ≡ there count o + total (λ x. there count (f x)) xs
      by None h = omega (arith, h)
      by (Some y) h = omega (arith, h)

  pub total_swap : (f : A → B → ℕ) (xs : List A) (ys : List B) → total (λ x. total (f x) ys) xs ≡ total (λ y. total (λ x. f x y) xs) ys
  total_swap f [] ys = omega (arith, total_none ys)
  total_swap f (x ∷ xs) ys = omega (arith, total_swap f xs ys, total_both (f x) (λ y. total (λ x. f x y) xs) ys)
