-- Flags beside the entries of a list: a walk that unflags, and what the flags pick.
use Rattle.std.proofs.Common.{◌≡◌, ℕ, zero, suc, ◌+◌, ◌<◌, ◌≤◌, Bool, true, false, cond, ◌&&◌, List, [], ◌∷◌, Option, Some, None, length, get_or, set, take, drop, replicate, refl, sym, ap, ◌∙◌, arith, add-one}
use Rattle.std.specs.List.{filter, position_from, slice_get}
use Rattle.std.specs.Option.{option_map, option_and_then}
use Rattle.decision.specs.Points.{picked, kept}

-- the flags behind a walk over the first entries
abbrev pub walked : {X : Type 0} → (X → Bool) → ℕ → List Bool → List X → List Bool
walked test zero flags xs = flags
walked test (suc n) [] xs = []
walked test (suc n) (flag ∷ flags) [] = flag ∷ flags
walked test (suc n) (flag ∷ flags) (x ∷ xs) = (flag && test x) ∷ walked test n flags xs

stays_flag : (flag b : Bool) → b ≡ true → (flag && b) ≡ flag
stays_flag true b e = e
stays_flag false b e = refl

goes_flag : (flag b : Bool) → b ≡ false → (flag && b) ≡ false
goes_flag true b e = e
goes_flag false b e = refl

module _ {X : Type 0} (test : X → Bool) where
  pub walked_pass : (n : ℕ) (flags : List Bool) (xs : List X) (d : X) → n < length xs → test (get_or xs n d) ≡ true → walked test (n + 1) flags xs ≡ walked test n flags xs
  walked_pass n flags xs d h e = rw add-one (go n flags xs h e)
    where
      go : (n : ℕ) (flags : List Bool) (xs : List X) → n < length xs → test (get_or xs n d) ≡ true → walked test (suc n) flags xs ≡ walked test n flags xs
      go n flags [] h e = absurd (omega arith)
      go zero [] (x ∷ xs) h e = refl
      go zero (flag ∷ flags) (x ∷ xs) h e = ap (λ (f : Bool). f ∷ flags) (stays_flag flag (test x) e)
      go (suc n) [] (x ∷ xs) h e = refl
      go (suc n) (flag ∷ flags) (x ∷ xs) h e = ap (λ (fs : List Bool). (flag && test x) ∷ fs) (go n flags xs (omega arith) e)

  pub walked_drop : (n : ℕ) (flags : List Bool) (xs : List X) (d : X) → n < length xs → test (get_or xs n d) ≡ false → walked test (n + 1) flags xs ≡ set (walked test n flags xs) n false
  walked_drop n flags xs d h e = rw add-one (go n flags xs h e)
    where
      go : (n : ℕ) (flags : List Bool) (xs : List X) → n < length xs → test (get_or xs n d) ≡ false → walked test (suc n) flags xs ≡ set (walked test n flags xs) n false
      go n flags [] h e = absurd (omega arith)
      go zero [] (x ∷ xs) h e = refl
      go zero (flag ∷ flags) (x ∷ xs) h e = ap (λ (f : Bool). f ∷ flags) (goes_flag flag (test x) e)
      go (suc n) [] (x ∷ xs) h e = refl
      go (suc n) (flag ∷ flags) (x ∷ xs) h e = ap (λ (fs : List Bool). (flag && test x) ∷ fs) (go n flags xs (omega arith) e)

  pub walked_all : (n : ℕ) (flags : List Bool) (xs : List X) → length xs ≤ n → walked test n flags xs ≡ kept test flags xs
  walked_all zero [] [] h = refl
  walked_all zero (flag ∷ flags) [] h = refl
  walked_all zero flags (x ∷ xs) h = absurd (omega arith)
  walked_all (suc n) [] xs h = refl
  walked_all (suc n) (flag ∷ flags) [] h = refl
  walked_all (suc n) (flag ∷ flags) (x ∷ xs) h = ap (λ (fs : List Bool). (flag && test x) ∷ fs) (walked_all n flags xs (omega arith))

  picked_by : (flags : List Bool) (x : X) (xs : List X) → picked (kept test flags xs) xs ≡ filter test (picked flags xs) → (b : Bool) → test x ≡ b → picked (kept test (true ∷ flags) (x ∷ xs)) (x ∷ xs) ≡ filter test (picked (true ∷ flags) (x ∷ xs))
  picked_by flags x xs rest true e = rw e (ap (λ (ys : List X). x ∷ ys) rest)
  picked_by flags x xs rest false e = rw e rest

  -- what is picked behind the walk are those picked before that pass
  pub picked-kept : (flags : List Bool) (xs : List X) → picked (kept test flags xs) xs ≡ filter test (picked flags xs)
  picked-kept [] xs = refl
  picked-kept (flag ∷ flags) [] = refl
  picked-kept (true ∷ flags) (x ∷ xs) = picked_by flags x xs (picked-kept flags xs) (test x) refl
  picked-kept (false ∷ flags) (x ∷ xs) = picked-kept flags xs

  pub length-kept : (flags : List Bool) (xs : List X) → length (kept test flags xs) ≡ length flags
  length-kept [] xs = refl
  length-kept (flag ∷ flags) [] = refl
  length-kept (flag ∷ flags) (x ∷ xs) = ap suc (length-kept flags xs)

later_by : (n : ℕ) (b : Bool) (p q : Option ℕ) → p ≡ option_map suc q → cond b (Some (n + 1)) p ≡ option_map suc (cond b (Some n) q)
later_by n true p q e = ap Some (add-one n)
later_by n false p q e = e

later : (n : ℕ) (flags : List Bool) → position_from (λ flag. flag) (n + 1) flags ≡ option_map suc (position_from (λ flag. flag) n flags)
later n [] = refl
later n (flag ∷ flags) = later_by n flag _ _ (later (n + 1) flags)

behind : {X : Type 0} (x : X) (xs : List X) (o : Option ℕ) → option_and_then (slice_get (x ∷ xs)) (option_map suc o) ≡ option_and_then (slice_get xs) o
behind x xs None = refl
behind x xs (Some k) = refl

module _ {X : Type 0} where
  -- where all flags are set, everything is picked
  pub picked_all : (n : ℕ) (xs : List X) → length xs ≤ n → picked (take (length xs) (replicate n true)) xs ≡ xs
  picked_all n [] h = refl
  picked_all zero (x ∷ xs) h = absurd (omega arith)
  picked_all (suc n) (x ∷ xs) h = ap (λ (ys : List X). x ∷ ys) (picked_all n xs (omega arith))

  pub length_all : (n : ℕ) (xs : List X) → length xs ≤ n → length (take (length xs) (replicate n true)) ≡ length xs
  length_all n [] h = refl
  length_all zero (x ∷ xs) h = absurd (omega arith)
  length_all (suc n) (x ∷ xs) h = ap suc (length_all n xs (omega arith))

  pub picked_more : (i : ℕ) (flags : List Bool) (xs : List X) (b : Bool) (d : X) → i < length flags → i < length xs → get_or flags i b ≡ true → picked (drop i flags) (drop i xs) ≡ get_or xs i d ∷ picked (drop (i + 1) flags) (drop (i + 1) xs)
  picked_more i flags xs b d h k e = rw add-one (go i flags xs h k e)
    where
      go : (i : ℕ) (flags : List Bool) (xs : List X) → i < length flags → i < length xs → get_or flags i b ≡ true → picked (drop i flags) (drop i xs) ≡ get_or xs i d ∷ picked (drop (suc i) flags) (drop (suc i) xs)
      go i [] xs h k e = absurd (omega arith)
      go i (flag ∷ flags) [] h k e = absurd (omega arith)
      go zero (flag ∷ flags) (x ∷ xs) h k e = rw e refl
      go (suc i) (flag ∷ flags) (x ∷ xs) h k e = go i flags xs (omega arith) (omega arith) e

  pub picked_less : (i : ℕ) (flags : List Bool) (xs : List X) (b : Bool) → i < length flags → i < length xs → get_or flags i b ≡ false → picked (drop i flags) (drop i xs) ≡ picked (drop (i + 1) flags) (drop (i + 1) xs)
  picked_less i flags xs b h k e = rw add-one (go i flags xs h k e)
    where
      go : (i : ℕ) (flags : List Bool) (xs : List X) → i < length flags → i < length xs → get_or flags i b ≡ false → picked (drop i flags) (drop i xs) ≡ picked (drop (suc i) flags) (drop (suc i) xs)
      go i [] xs h k e = absurd (omega arith)
      go i (flag ∷ flags) [] h k e = absurd (omega arith)
      go zero (flag ∷ flags) (x ∷ xs) h k e = rw e refl
      go (suc i) (flag ∷ flags) (x ∷ xs) h k e = go i flags xs (omega arith) (omega arith) e

  -- the entry beside the first flag that is set is the first that is picked
  pub first_picked : (flags : List Bool) (xs : List X) → length flags ≡ length xs → option_and_then (slice_get xs) (position_from (λ flag. flag) 0 flags) ≡ slice_get (picked flags xs) 0
  first_picked [] [] h = refl
  first_picked [] (x ∷ xs) h = absurd (omega arith)
  first_picked (flag ∷ flags) [] h = absurd (omega arith)
  first_picked (true ∷ flags) (x ∷ xs) h = refl
  first_picked (false ∷ flags) (x ∷ xs) h =
      ap (option_and_then (slice_get (x ∷ xs))) (later 0 flags) ∙ (behind x xs (position_from (λ flag. flag) 0 flags) ∙ first_picked flags xs (omega arith))

-- one turn of a walk, at an entry that passes and at one that does not
module _ {X : Type 0} (test : X → Bool) (flags : List Bool) (xs : List X) where
  pub pass_more : (n : ℕ) (x : X) (left : List Bool) → n < length xs → x ≡ get_or xs n x → test x ≡ true → left ≡ walked test n flags xs → left ≡ walked test (n + 1) flags xs
  pass_more n x left h is e so_far = so_far ∙ sym (walked_pass test n flags xs x h (ap test (sym is) ∙ e))

  pub drop_more : (n : ℕ) (x : X) (left : List Bool) → n < length xs → x ≡ get_or xs n x → test x ≡ false → left ≡ walked test n flags xs → set left n false ≡ walked test (n + 1) flags xs
  drop_more n x left h is e so_far = ap (λ fs. set fs n false) so_far ∙ sym (walked_drop test n flags xs x h (ap test (sym is) ∙ e))
