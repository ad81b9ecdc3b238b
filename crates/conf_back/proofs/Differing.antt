-- Where no two keys are the same, nothing comes twice; entries that are parted by tests keep their keys apart.
use Rattle.std.proofs.Common.{◌≡◌, ◌∙◌, ℕ, Bool, true, false, cond, ◌||◌, List, [], ◌∷◌, ◌++◌, append_assoc, append-nil, map, filter, flat_map, None, refl, sym, subst}
use Rattle.std.specs.List.{AllByRecursion, IsDistinct, list_any}
use Rattle.std.specs.List.Sorted.{IsPermutation}
use Rattle.std.proofs.lemmas.List.Folds.{list_any-append}
use Rattle.std.proofs.lemmas.List.Sorted.{IsPermutation-refl, IsPermutation-sym, IsPermutation-trans, IsPermutation-cons, IsPermutation-middle, IsPermutation-append_left}
use Rattle.conf_tree.specs.Checks.{double_after, first_double}
use Rattle.conf_back.proofs.Merged.{or_false, or_assoc}

-- ---- no name comes twice

module _ {K : Type 0} (same : K → K → Bool) (flips : (a b : K) → same a b ≡ same b a) where
  -- none of these is the same as one of the earlier ones
  abbrev AreNew : List (ℕ × K) → List (ℕ × K) → Type 0
  AreNew earlier names = AllByRecursion (λ name. list_any (λ e. same name.1 e.1) earlier ≡ false) names

  still_new : (earlier : List (ℕ × K)) (name : ℕ × K) (later : List (ℕ × K)) → AreNew earlier later → AllByRecursion (λ k. same name.1 k ≡ false) (map (λ e. e.1) later) → AreNew (earlier ++ name ∷ []) later
  still_new earlier name [] new apart = tt
  still_new earlier name (m ∷ later) new apart = (
    list_any-append (λ e. same m.1 e.1) earlier (name ∷ []) ∙ rw new.0 (or_false (same m.1 name.1) ∙ flips m.1 name.1 ∙ apart.0),
    still_new earlier name later new.1 apart.1,
  )

  none_double : (earlier names : List (ℕ × K)) → AreNew earlier names → IsDistinct same (map (λ e. e.1) names) → double_after same earlier names ≡ None
  unfolding IsDistinct
  none_double earlier [] new distinct = refl
  none_double earlier (name ∷ later) new distinct = rw new.0 (none_double (earlier ++ name ∷ []) later (still_new earlier name later new.1 distinct.0) distinct.1)

  all_new : (names : List (ℕ × K)) → AreNew [] names
  all_new [] = tt
  all_new (name ∷ names) = (refl, all_new names)

  pub no_double : (names : List (ℕ × K)) → IsDistinct same (map (λ e. e.1) names) → first_double same names ≡ None
  unfolding first_double
  no_double names distinct = none_double [] names (all_new names) distinct

-- ---- keys of a list

module _ {A K : Type 0} (same : K → K → Bool) (key : A → K) where
  key_apart : (x : A) (xs : List A) → AllByRecursion (λ y. same (key x) (key y) ≡ false) xs → AllByRecursion (λ k. same (key x) k ≡ false) (map key xs)
  key_apart x [] all = tt
  key_apart x (y ∷ xs) all = (all.0, key_apart x xs all.1)

  pub keys_apart : (xs : List A) → IsDistinct (λ a b. same (key a) (key b)) xs → IsDistinct same (map key xs)
  unfolding IsDistinct
  keys_apart [] distinct = tt
  keys_apart (x ∷ xs) distinct = (key_apart x xs distinct.0, keys_apart xs distinct.1)

-- ---- parts of a list

module _ {A : Type 0} where
  -- nothing passes both tests
  abbrev pub AreApart : (A → Bool) → (A → Bool) → Type 0
  AreApart p q = (x : A) → p x ≡ true → q x ≡ true → ⊥

  two_parts : (p q : A → Bool) (xs : List A) → AreApart p q → IsPermutation (filter (λ x. p x || q x) xs) (filter p xs ++ filter q xs)
  two_parts p q [] apart = IsPermutation-refl []
  two_parts p q (x ∷ xs) apart = by (p x) (q x) refl refl (two_parts p q xs apart)
    where
      rest : List A
      rest = filter (λ y. p y || q y) xs

      by : (a b : Bool) → p x ≡ a → q x ≡ b → IsPermutation rest (filter p xs ++ filter q xs)
          → IsPermutation (cond (a || b) (x ∷ rest) rest) (cond a (x ∷ filter p xs) (filter p xs) ++ cond b (x ∷ filter q xs) (filter q xs))
      by true true first second behind = absurd (apart x first second)
      by true false first second behind = IsPermutation-cons x rest (filter p xs ++ filter q xs) behind
      by false true first second behind =
          IsPermutation-trans (x ∷ rest) (x ∷ (filter p xs ++ filter q xs)) (filter p xs ++ x ∷ filter q xs) (IsPermutation-cons x rest (filter p xs ++ filter q xs) behind)
          (IsPermutation-sym (filter p xs ++ x ∷ filter q xs) (x ∷ (filter p xs ++ filter q xs)) (IsPermutation-middle (filter p xs) x (filter q xs)))
      by false false first second behind = behind

  module _ {B : Type 0} (same : B → B → Bool) (q : B → A → Bool) (others : (a b : B) → same a b ≡ false → AreApart (q a) (q b)) (xs : List A) where
    joined : (p : A → Bool) (b : B) (bs : List B) → AllByRecursion (λ c. AreApart p (q c)) bs → AllByRecursion (λ c. same b c ≡ false) bs → AllByRecursion (λ c. AreApart (λ x. p x || q b x) (q c)) bs
    joined p b [] apart differ = tt
    joined p b (c ∷ bs) apart differ = (λ x. either (p x) (q b x) (apart.0 x) (others b c differ.0 x), joined p b bs apart.1 differ.1)
      where
        either : (first second : Bool) {P : Type 0} → (first ≡ true → P → ⊥) → (second ≡ true → P → ⊥) → (first || second) ≡ true → P → ⊥
        either true second no_first no_second one is = no_first refl is
        either false second no_first no_second one is = no_second one is

    pub parted : (p : A → Bool) (bs : List B) → AllByRecursion (λ c. AreApart p (q c)) bs → IsDistinct same bs
        → IsPermutation (filter (λ x. p x || list_any (λ b. q b x) bs) xs) (filter p xs ++ flat_map (λ b. filter (q b) xs) bs)
    unfolding IsDistinct
    parted p [] apart distinct =
        subst (λ (t : A → Bool). IsPermutation (filter t xs) (filter p xs ++ [])) (λ i x. sym (or_false (p x)) i)
        (subst (IsPermutation (filter p xs)) (sym (append-nil (filter p xs))) (IsPermutation-refl (filter p xs)))
    parted p (b ∷ bs) apart distinct =
        let rest : List A = flat_map (λ b. filter (q b) xs) bs in
        let both : A → Bool = λ x. p x || q b x in
        IsPermutation-trans (filter (λ x. p x || (q b x || list_any (λ b. q b x) bs)) xs) (filter both xs ++ rest) (filter p xs ++ (filter (q b) xs ++ rest))
        (subst (λ (t : A → Bool). IsPermutation (filter t xs) (filter both xs ++ rest)) (λ i x. or_assoc (p x) (q b x) (list_any (λ b. q b x) bs) i)
        (parted both bs (joined p b bs apart.1 distinct.0) distinct.1))
        (subst (IsPermutation (filter both xs ++ rest)) (append_assoc (filter p xs) (filter (q b) xs) rest)
        (IsPermutation-append_left rest (filter both xs) (filter p xs ++ filter (q b) xs) (two_parts p (q b) xs apart.0)))
