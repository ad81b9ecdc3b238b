-- Sums over the numbers of tables, and how long lists are.
use Rattle.std.proofs.Common.{◌≡◌, ◌≤◌, ℕ, ◌+◌, ◌*◌, Bool, true, false, ◌==◌, ◌||◌, List, [], ◌∷◌, length, Option, Some, None, refl, sym, ap, subst, ◌∙◌, eqb-true, true≢false, arith}
use Rattle.std.specs.BTreeSet.{insert_key}
use Rattle.std.specs.List.{AllByRecursion, IsDistinct, cons_option, filter_map, sum_by}
use Rattle.std.specs.List.Sorted.{IsStrictlySortedBy}
use Rattle.std.specs.Ordering.{eq_by_cmp, match_ordering, nat_cmp}
use Rattle.std.specs.declared.cmp.Ordering.{Ordering}
use Rattle.std.specs.declared.cmp.Ordering.TheVariants.{Less, Equal, Greater}
use Rattle.std.proofs.Math.Nat.{suc-mul}
use Rattle.std.proofs.lemmas.List.Sums.{sum_by-cons}
use Rattle.std.proofs.lemmas.Map.Keys.{IsDistinct-from_sorted, IsDistinct-head, IsDistinct-tail}
use Rattle.parent_core.specs.KernelTables.{is_among}
use Rattle.parent_core.proofs.Taking.{same_number, same_number_back}

-- both ways round
apart_back : (n x : ℕ) → (x == n) ≡ false → (n == x) ≡ false
apart_back n x e = sym (same_number n x) ∙ same_number_back x n ∙ e

-- a sum over other numbers
sum_apart : (f g : ℕ → ℕ) (n : ℕ) (xs : List ℕ) → AllByRecursion (λ y. eq_by_cmp nat_cmp n y ≡ false) xs → ((m : ℕ) → (n == m) ≡ false → g m ≡ f m) → sum_by g xs ≡ sum_by f xs
sum_apart f g n [] apart same = refl
sum_apart f g n (x ∷ xs) apart same =
    let here : g x ≡ f x = same x (sym (same_number n x) ∙ apart.0) in
    let rest : sum_by g xs ≡ sum_by f xs = sum_apart f g n xs apart.1 same in
    omega (arith, sum_by-cons g x xs, sum_by-cons f x xs, here, rest)

sum_at_distinct : (f g : ℕ → ℕ) (n : ℕ) (xs : List ℕ) → IsDistinct (eq_by_cmp nat_cmp) xs → is_among xs n ≡ true → ((m : ℕ) → (n == m) ≡ false → g m ≡ f m) → sum_by g xs + f n ≡ sum_by f xs + g n
sum_at_distinct f g n [] distinct among same = absurd (true≢false (sym among))
sum_at_distinct f g n (x ∷ xs) distinct among same = go (sum_at_distinct f g n xs (IsDistinct-tail (eq_by_cmp nat_cmp) x xs distinct)) (x == n) refl among
  where
    go : (is_among xs n ≡ true → ((m : ℕ) → (n == m) ≡ false → g m ≡ f m) → sum_by g xs + f n ≡ sum_by f xs + g n)
        → (b : Bool) → (x == n) ≡ b → (b || is_among xs n) ≡ true → sum_by g (x ∷ xs) + f n ≡ sum_by f (x ∷ xs) + g n
    go rec true e h =
        let is : x ≡ n = eqb-true x n e in
        let rest : sum_by g xs ≡ sum_by f xs = sum_apart f g n xs (subst (λ (k : ℕ). AllByRecursion (λ y. eq_by_cmp nat_cmp k y ≡ false) xs) is (IsDistinct-head (eq_by_cmp nat_cmp) x xs distinct)) same in
        omega (arith, sum_by-cons g x xs, sum_by-cons f x xs, rest, ap g is, ap f is)
    go rec false e h =
        let rest : sum_by g xs + f n ≡ sum_by f xs + g n = rec h same in
        let here : g x ≡ f x = same x (apart_back n x e) in
        omega (arith, sum_by-cons g x xs, sum_by-cons f x xs, rest, here)

-- a sum of which one term changes
pub sum_at : (f g : ℕ → ℕ) (n : ℕ) (xs : List ℕ) → IsStrictlySortedBy nat_cmp xs → is_among xs n ≡ true → ((m : ℕ) → (n == m) ≡ false → g m ≡ f m) → sum_by g xs + f n ≡ sum_by f xs + g n
sum_at f g n xs sorted among same = sum_at_distinct f g n xs (IsDistinct-from_sorted nat_cmp xs sorted) among same

-- a sum of which no term changes
pub sum_same : (f g : ℕ → ℕ) (xs : List ℕ) → ((m : ℕ) → g m ≡ f m) → sum_by g xs ≡ sum_by f xs
sum_same f g xs same = λ i. sum_by (λ m. same m i) xs

-- a sum of which each term grows by no more than that
pub sum_more : (f g : ℕ → ℕ) (c : ℕ) (xs : List ℕ) → ((m : ℕ) → g m ≤ f m + c) → sum_by g xs ≤ sum_by f xs + length xs * c
sum_more f g c [] more = omega arith
sum_more f g c (x ∷ xs) more =
    let rest : sum_by g xs ≤ sum_by f xs + length xs * c = sum_more f g c xs more in
    omega (arith, sum_by-cons g x xs, sum_by-cons f x xs, rest, more x, suc-mul (length xs) c)

-- a key that is put into a set
pub length_inserted : {K : Type 0} (cmp : K → K → Ordering) (ks : List K) (k : K) → length (insert_key cmp ks k) ≤ length ks + 1
length_inserted cmp [] k = omega arith
length_inserted {K} cmp (x ∷ xs) k = go (length_inserted cmp xs k) (cmp k x)
  where
    go : length (insert_key cmp xs k) ≤ length xs + 1 → (o : Ordering) → length (match_ordering o (k ∷ x ∷ xs) (x ∷ xs) (x ∷ insert_key cmp xs k)) ≤ length (x ∷ xs) + 1
    go rec Less = omega arith
    go rec Equal = omega arith
    go rec Greater = omega (arith, rec)

pub length_filtered : {X Y : Type 0} (f : X → Option Y) (xs : List X) → length (filter_map f xs) ≤ length xs
length_filtered f [] = omega arith
length_filtered {X} {Y} f (x ∷ xs) = go (length_filtered f xs) (f x)
  where
    go : length (filter_map f xs) ≤ length xs → (o : Option Y) → length (cons_option o (filter_map f xs)) ≤ length (x ∷ xs)
    go rec None = omega (arith, rec)
    go rec (Some y) = omega (arith, rec)
