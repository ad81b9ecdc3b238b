-- Members of a list, and what a filter keeps of them.
use Rattle.std.proofs.Common.{◌≡◌, ℕ, zero, suc, ◌<◌, Bool, true, false, cond, not, ◌&&◌, ◌||◌, ◌⊎◌, inl, inr, List, [], ◌∷◌, length, get_or, refl, sym, ap, ◌∙◌, arith}
use Rattle.std.specs.List.{filter, list_any, Contains}

-- x is a member of the list
abbrev pub In : {X : Type 0} → X → List X → Type 0
In x [] = ⊥
In x (y ∷ ys) = (x ≡ y) ⊎ In x ys

-- two tests say the same where each yes of the one is a yes of the other
pub same_answer : (a b : Bool) → (a ≡ true → b ≡ true) → (b ≡ true → a ≡ true) → a ≡ b
same_answer true b to from = sym (to refl)
same_answer false true to from = from refl
same_answer false false to from = refl

pub not_true : (b : Bool) → not b ≡ true → b ≡ false
not_true true e = absurd cc
not_true false e = refl

pub not_false : (b : Bool) → b ≡ false → not b ≡ true
not_false true e = absurd cc
not_false false e = refl

pub both_true : (a b : Bool) → (a && b) ≡ true → (a ≡ true) × (b ≡ true)
both_true true b e = (refl, e)
both_true false b e = absurd cc

pub and_true : (a b : Bool) → a ≡ true → b ≡ true → (a && b) ≡ true
and_true a b e f = rw (e, f) refl

pub true_or_false : (b : Bool) → (b ≡ true) ⊎ (b ≡ false)
true_or_false true = inl refl
true_or_false false = inr refl

or_right : (a b : Bool) → b ≡ true → (a || b) ≡ true
or_right true b e = refl
or_right false b e = e

module _ {X : Type 0} where
  any_cons : (p : X → Bool) (a : Bool) (x : X) (xs : List X) → p x ≡ a → list_any p (x ∷ xs) ≡ (a || list_any p xs)
  any_cons p a x xs e = ap (λ b. b || list_any p xs) e

  pub any_true : (p : X → Bool) (x : X) (xs : List X) → In x xs → p x ≡ true → list_any p xs ≡ true
  any_true p x [] within e = absurd within
  any_true p x (y ∷ ys) (inl same) e = any_cons p true y ys (ap p (sym same) ∙ e)
  any_true p x (y ∷ ys) (inr within) e = or_right (p y) (list_any p ys) (any_true p x ys within e)

  pub any_false : (p : X → Bool) (xs : List X) → ((x : X) → In x xs → p x ≡ false) → list_any p xs ≡ false
  any_false p [] none = refl
  any_false p (y ∷ ys) none = any_cons p false y ys (none y (inl refl)) ∙ any_false p ys (λ x within. none x (inr within))

  pub none_passes : (p : X → Bool) (xs : List X) → list_any p xs ≡ false → (x : X) → In x xs → p x ≡ false
  none_passes p xs none x within =
      elim (true_or_false (p x)) [ inl e ↦ (let some = any_true p x xs within e in absurd cc) | inr e ↦ e ]

  member_by : (p : X → Bool) (y : X) (ys : List X) → (list_any p ys ≡ true → (z : X) × In z ys × (p z ≡ true)) → (b : Bool) → p y ≡ b → list_any p (y ∷ ys) ≡ true → (z : X) × In z (y ∷ ys) × (p z ≡ true)
  member_by p y ys behind true e h = (y, inl refl, e)
  member_by p y ys behind false e h = let m = behind (sym (any_cons p false y ys e) ∙ h) in (m.0, inr m.1, m.2)

  pub any_member : (p : X → Bool) (xs : List X) → list_any p xs ≡ true → (x : X) × In x xs × (p x ≡ true)
  any_member p [] e = absurd cc
  any_member p (y ∷ ys) e = member_by p y ys (any_member p ys) (p y) refl e

  pub filter_on : (p q : X → Bool) (xs : List X) → ((x : X) → In x xs → p x ≡ q x) → filter p xs ≡ filter q xs
  filter_on p q [] agree = refl
  filter_on p q (x ∷ xs) agree =
      let rest = filter_on p q xs (λ y within. agree y (inr within)) in
      ap (λ b. cond b (x ∷ filter p xs) (filter p xs)) (agree x (inl refl)) ∙ ap (λ ys. cond (q x) (x ∷ ys) ys) rest

  pub filter_all : (p : X → Bool) (xs : List X) → ((x : X) → In x xs → p x ≡ true) → filter p xs ≡ xs
  filter_all p [] each = refl
  filter_all p (x ∷ xs) each =
      ap (λ b. cond b (x ∷ filter p xs) (filter p xs)) (each x (inl refl)) ∙ ap (λ (ys : List X). x ∷ ys) (filter_all p xs (λ y within. each y (inr within)))

  kept_behind : (p : X → Bool) (x y : X) (ys : List X) → In x (filter p ys) → (b : Bool) → p y ≡ b → In x (filter p (y ∷ ys))
  kept_behind p x y ys h true e = rw e (inr h)
  kept_behind p x y ys h false e = rw e h

  pub In_filter : (p : X → Bool) (x : X) (xs : List X) → In x xs → p x ≡ true → In x (filter p xs)
  In_filter p x [] within e = absurd within
  In_filter p x (y ∷ ys) (inl same) e = rw (ap p (sym same) ∙ e) (inl same)
  In_filter p x (y ∷ ys) (inr within) e = kept_behind p x y ys (In_filter p x ys within e) (p y) refl

  of_filter_by : (p : X → Bool) (x y : X) (ys : List X) → (In x (filter p ys) → In x ys × (p x ≡ true)) → (b : Bool) → p y ≡ b → In x (cond b (y ∷ filter p ys) (filter p ys)) → In x (y ∷ ys) × (p x ≡ true)
  of_filter_by p x y ys behind true e (inl same) = (inl same, ap p same ∙ e)
  of_filter_by p x y ys behind true e (inr h) = let m = behind h in (inr m.0, m.1)
  of_filter_by p x y ys behind false e h = let m = behind h in (inr m.0, m.1)

  pub of_filter : (p : X → Bool) (x : X) (xs : List X) → In x (filter p xs) → In x xs × (p x ≡ true)
  of_filter p x [] within = absurd within
  of_filter p x (y ∷ ys) within = of_filter_by p x y ys (of_filter p x ys) (p y) refl within

  In_from_by : (x y : X) (ys : List X) → (Contains ys x → In x ys) → (k : ℕ) → k < length (y ∷ ys) → get_or (y ∷ ys) k x ≡ x → In x (y ∷ ys)
  In_from_by x y ys behind zero h e = inl (sym e)
  In_from_by x y ys behind (suc k) h e = inr (behind (k, omega arith, e))

  pub In_from_Contains : (x : X) (xs : List X) → Contains xs x → In x xs
  In_from_Contains x [] there = absurd (omega (arith, there.1))
  In_from_Contains x (y ∷ ys) there = In_from_by x y ys (In_from_Contains x ys) there.0 there.1 there.2

  pub Contains_from_In : (x : X) (xs : List X) → In x xs → Contains xs x
  Contains_from_In x [] within = absurd within
  Contains_from_In x (y ∷ ys) (inl same) = (0, omega arith, sym same)
  Contains_from_In x (y ∷ ys) (inr within) = let behind = Contains_from_In x ys within in (suc behind.0, omega (arith, behind.1), behind.2)
