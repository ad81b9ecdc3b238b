-- Lists by key in order: what stands in them behind a change, and that they stay in order.
use Rattle.std.proofs.Common.{◌≡◌, Bool, true, false, cond, not, ◌&&◌, ◌||◌, List, [], ◌∷◌, Option, Some, None, refl, sym, ap, ◌∙◌, subst, true≢false}
use Rattle.std.specs.BTreeMap.{is_at, insert_entry}
use Rattle.std.specs.BTreeSet.{insert_key}
use Rattle.std.specs.Cmp.{IsTotalOrder, eq_by_cmp_equiv}
use Rattle.std.specs.List.{AllByRecursion, list_any}
use Rattle.std.specs.List.Sorted.{IsStrictlySortedBy}
use Rattle.std.specs.Map.{keys_of, lookup, remove_entry}
use Rattle.std.specs.Ordering.{is_eq, eq_by_cmp, match_ordering, ordering_reverse}
use Rattle.std.specs.Set.{remove_key}
use Rattle.std.specs.declared.cmp.Ordering.{Ordering}
use Rattle.std.specs.declared.cmp.Ordering.TheVariants.{Less, Equal, Greater}
use Rattle.std.proofs.lemmas.Map.{lookup-remove_entry}
use Rattle.std.proofs.lemmas.Map.Keys.{sorted_head, sorted_tail, IsDistinct-from_sorted}

module _ {K : Type 0} (R : K → K → Ordering) where
  pub sorted_nil : IsStrictlySortedBy R []
  unfolding IsStrictlySortedBy
  sorted_nil = tt

  sorted_cons : (k : K) (ks : List K) → AllByRecursion (λ y. R k y ≡ Less) ks → IsStrictlySortedBy R ks → IsStrictlySortedBy R (k ∷ ks)
  unfolding IsStrictlySortedBy
  sorted_cons k ks head tail = (head, tail)

all_inserted : {K : Type 0} (R : K → K → Ordering) (P : K → Type 0) (ks : List K) (k : K) → AllByRecursion P ks → P k → AllByRecursion P (insert_key R ks k)
all_inserted R P [] k all here = (here, tt)
all_inserted {K} R P (x ∷ xs) k all here = go (all_inserted R P xs k all.1 here) (R k x)
  where
    go : AllByRecursion P (insert_key R xs k) → (o : Ordering) → AllByRecursion P (match_ordering o (k ∷ x ∷ xs) (x ∷ xs) (x ∷ insert_key R xs k))
    go rec Less = (here, all)
    go rec Equal = all
    go rec Greater = (all.0, rec)

all_left : {K : Type 0} (test : K → Bool) (P : K → Type 0) (ks : List K) → AllByRecursion P ks → AllByRecursion P (remove_key test ks)
all_left test P [] all = tt
all_left {K} test P (x ∷ xs) all = go (all_left test P xs all.1) (test x)
  where
    go : AllByRecursion P (remove_key test xs) → (b : Bool) → AllByRecursion P (cond b xs (x ∷ remove_key test xs))
    go rec true = all.1
    go rec false = (all.0, rec)

all_above : {K : Type 0} {R : K → K → Ordering} → IsTotalOrder R → (k x : K) (ks : List K) → R k x ≡ Less → AllByRecursion (λ y. R x y ≡ Less) ks → AllByRecursion (λ y. R k y ≡ Less) ks
all_above o k x [] less all = tt
all_above o k x (y ∷ ys) less all = (o.trans k x y less all.0, all_above o k x ys less all.1)

pub sorted_insert : {K : Type 0} {R : K → K → Ordering} → IsTotalOrder R → (ks : List K) (k : K) → IsStrictlySortedBy R ks → IsStrictlySortedBy R (insert_key R ks k)
sorted_insert {K} {R} o [] k s = sorted_cons R k [] tt (sorted_nil R)
sorted_insert {K} {R} o (x ∷ xs) k s = go (sorted_insert o xs k (sorted_tail R x xs s)) (R k x) refl
  where
    go : IsStrictlySortedBy R (insert_key R xs k) → (c : Ordering) → R k x ≡ c → IsStrictlySortedBy R (match_ordering c (k ∷ x ∷ xs) (x ∷ xs) (x ∷ insert_key R xs k))
    go rec Less is = sorted_cons R k (x ∷ xs) (is, all_above o k x xs is (sorted_head R x xs s)) s
    go rec Equal is = s
    go rec Greater is = sorted_cons R x (insert_key R xs k) (all_inserted R (λ y. R x y ≡ Less) xs k (sorted_head R x xs s) (o.antisymm x k ∙ ap ordering_reverse is)) rec

pub sorted_remove : {K : Type 0} (R : K → K → Ordering) (test : K → Bool) (ks : List K) → IsStrictlySortedBy R ks → IsStrictlySortedBy R (remove_key test ks)
sorted_remove R test [] s = s
sorted_remove {K} R test (x ∷ xs) s = go (sorted_remove R test xs (sorted_tail R x xs s)) (test x)
  where
    go : IsStrictlySortedBy R (remove_key test xs) → (b : Bool) → IsStrictlySortedBy R (cond b xs (x ∷ remove_key test xs))
    go rec true = sorted_tail R x xs s
    go rec false = sorted_cons R x (remove_key test xs) (all_left test (λ y. R x y ≡ Less) xs (sorted_head R x xs s)) rec

pub keys_inserted : {K X : Type 0} (R : K → K → Ordering) (es : List (K × X)) (k : K) (v : X) → keys_of (insert_entry R es k v) ≡ insert_key R (keys_of es) k
keys_inserted R [] k v = refl
keys_inserted {K} {X} R (e ∷ es) k v = go (keys_inserted R es k v) (R k e.0)
  where
    go : keys_of (insert_entry R es k v) ≡ insert_key R (keys_of es) k → (o : Ordering)
        → keys_of (match_ordering o ((k, v) ∷ e ∷ es) ((e.0, v) ∷ es) (e ∷ insert_entry R es k v)) ≡ match_ordering o (k ∷ e.0 ∷ keys_of es) (e.0 ∷ keys_of es) (e.0 ∷ insert_key R (keys_of es) k)
    go rec Less = refl
    go rec Equal = refl
    go rec Greater = ap (λ (ks : List K). e.0 ∷ ks) rec

pub keys_removed : {K X : Type 0} (test : K → Bool) (es : List (K × X)) → keys_of (remove_entry test es) ≡ remove_key test (keys_of es)
keys_removed test [] = refl
keys_removed {K} {X} test (e ∷ es) = go (keys_removed test es) (test e.0)
  where
    go : keys_of (remove_entry test es) ≡ remove_key test (keys_of es) → (b : Bool) → keys_of (cond b es (e ∷ remove_entry test es)) ≡ cond b (keys_of es) (e.0 ∷ remove_key test (keys_of es))
    go rec true = refl
    go rec false = ap (λ (ks : List K). e.0 ∷ ks) rec

-- ---- what stands in them

same_as : {K : Type 0} {R : K → K → Ordering} → IsTotalOrder R → (k x q : K) → R k x ≡ Equal → is_eq (R q x) ≡ is_eq (R q k)
same_as {K} {R} o k x q is = (eq_by_cmp_equiv o).symm q x ∙ ap is_eq (sym (o.congr k x q is)) ∙ (eq_by_cmp_equiv o).symm k q

pub any_inserted : {K : Type 0} {R : K → K → Ordering} → IsTotalOrder R → (q k : K) (ks : List K) → list_any (eq_by_cmp R q) (insert_key R ks k) ≡ (eq_by_cmp R q k || list_any (eq_by_cmp R q) ks)
any_inserted o q k [] = refl
any_inserted {K} {R} o q k (x ∷ xs) = go (any_inserted o q k xs) (R k x) refl
  where
    twice : (a b c : Bool) → a ≡ b → (a || c) ≡ (b || (a || c))
    twice true true c e = refl
    twice false false c e = refl
    twice true false c e = absurd (true≢false e)
    twice false true c e = absurd (true≢false (sym e))

    swap : (a b c : Bool) → (a || (b || c)) ≡ (b || (a || c))
    swap true true c = refl
    swap true false c = refl
    swap false true c = refl
    swap false false c = refl

    go : list_any (eq_by_cmp R q) (insert_key R xs k) ≡ (eq_by_cmp R q k || list_any (eq_by_cmp R q) xs) → (c : Ordering) → R k x ≡ c
        → list_any (eq_by_cmp R q) (match_ordering c (k ∷ x ∷ xs) (x ∷ xs) (x ∷ insert_key R xs k)) ≡ (eq_by_cmp R q k || (eq_by_cmp R q x || list_any (eq_by_cmp R q) xs))
    go rec Less is = refl
    go rec Equal is = twice (eq_by_cmp R q x) (eq_by_cmp R q k) (list_any (eq_by_cmp R q) xs) (same_as o k x q is)
    go rec Greater is = ap (λ b. eq_by_cmp R q x || b) rec ∙ swap (eq_by_cmp R q x) (eq_by_cmp R q k) (list_any (eq_by_cmp R q) xs)

none_above : {K : Type 0} {R : K → K → Ordering} → IsTotalOrder R → (q x : K) (xs : List K) → R q x ≡ Equal → AllByRecursion (λ y. R x y ≡ Less) xs → list_any (eq_by_cmp R q) xs ≡ false
none_above o q x [] is above = refl
none_above o q x (y ∷ ys) is above = (λ i. is_eq ((o.congr q x y is ∙ above.0) i) || none_above o q x ys is above.1 i)

equal_of : (c : Ordering) → is_eq c ≡ true → c ≡ Equal
equal_of Less h = absurd (true≢false (sym h))
equal_of Equal h = refl
equal_of Greater h = absurd (true≢false (sym h))

hit : (a l : Bool) → (a ≡ true → l ≡ false) → l ≡ (not a && (a || l))
hit true l h = h refl
hit false l h = refl

miss : (a b l : Bool) → (b ≡ true → a ≡ false) → (a || (not b && l)) ≡ (not b && (a || l))
miss a true l h = ap (λ c. c || false) (h refl)
miss a false l h = refl

pub any_removed : {K : Type 0} {R : K → K → Ordering} → IsTotalOrder R → (q k : K) (ks : List K) → IsStrictlySortedBy R ks
    → list_any (eq_by_cmp R q) (remove_key (λ p. is_at (R k) p) ks) ≡ (not (eq_by_cmp R q k) && list_any (eq_by_cmp R q) ks)
any_removed {K} {R} o q k [] s = none (eq_by_cmp R q k)
  where
    none : (b : Bool) → false ≡ (not b && false)
    none true = refl
    none false = refl
any_removed {K} {R} o q k (x ∷ xs) s = go (any_removed o q k xs (sorted_tail R x xs s)) (R k x) refl
  where
    apart : (c : Ordering) → R k x ≡ c → is_eq c ≡ false → eq_by_cmp R q k ≡ true → eq_by_cmp R q x ≡ false
    apart c is other same = ap is_eq (o.congr q k x (equal_of (R q k) same) ∙ is) ∙ other

    go : list_any (eq_by_cmp R q) (remove_key (λ p. is_at (R k) p) xs) ≡ (not (eq_by_cmp R q k) && list_any (eq_by_cmp R q) xs) → (c : Ordering) → R k x ≡ c
        → list_any (eq_by_cmp R q) (cond (is_eq c) xs (x ∷ remove_key (λ p. is_at (R k) p) xs)) ≡ (not (eq_by_cmp R q k) && (eq_by_cmp R q x || list_any (eq_by_cmp R q) xs))
    go rec Less is = ap (λ b. eq_by_cmp R q x || b) rec ∙ miss (eq_by_cmp R q x) (eq_by_cmp R q k) (list_any (eq_by_cmp R q) xs) (apart Less is refl)
    go rec Greater is = ap (λ b. eq_by_cmp R q x || b) rec ∙ miss (eq_by_cmp R q x) (eq_by_cmp R q k) (list_any (eq_by_cmp R q) xs) (apart Greater is refl)
    go rec Equal is =
        hit (eq_by_cmp R q x) (list_any (eq_by_cmp R q) xs) (λ same. none_above o q x xs (equal_of (R q x) same) (sorted_head R x xs s))
        ∙ ap (λ b. not b && (eq_by_cmp R q x || list_any (eq_by_cmp R q) xs)) (same_as o k x q is)

pub lookup_inserted : {K X : Type 0} {R : K → K → Ordering} → IsTotalOrder R → (q k : K) (v : X) (es : List (K × X))
    → lookup (is_at (R q)) (insert_entry R es k v) ≡ cond (eq_by_cmp R q k) (Some v) (lookup (is_at (R q)) es)
lookup_inserted o q k v [] = refl
lookup_inserted {K} {X} {R} o q k v (e ∷ es) = go (lookup_inserted o q k v es) (R k e.0) refl
  where
    both : (a b : Bool) (v w : X) (l : Option X) → a ≡ b → cond a (Some v) l ≡ cond b (Some v) (cond a (Some w) l)
    both true true v w l h = refl
    both false false v w l h = refl
    both true false v w l h = absurd (true≢false h)
    both false true v w l h = absurd (true≢false (sym h))

    swap : (a b : Bool) (v w : X) (l : Option X) → (b ≡ true → a ≡ false) → cond a (Some w) (cond b (Some v) l) ≡ cond b (Some v) (cond a (Some w) l)
    swap a true v w l h = ap (λ (c : Bool). cond c (Some w) (Some v)) (h refl)
    swap a false v w l h = refl

    go : lookup (is_at (R q)) (insert_entry R es k v) ≡ cond (eq_by_cmp R q k) (Some v) (lookup (is_at (R q)) es) → (c : Ordering) → R k e.0 ≡ c
        → lookup (is_at (R q)) (match_ordering c ((k, v) ∷ e ∷ es) ((e.0, v) ∷ es) (e ∷ insert_entry R es k v)) ≡ cond (eq_by_cmp R q k) (Some v) (cond (eq_by_cmp R q e.0) (Some e.1) (lookup (is_at (R q)) es))
    go rec Less is = refl
    go rec Equal is = both (eq_by_cmp R q e.0) (eq_by_cmp R q k) v e.1 (lookup (is_at (R q)) es) (same_as o k e.0 q is)
    go rec Greater is = ap (cond (eq_by_cmp R q e.0) (Some e.1)) rec
        ∙ swap (eq_by_cmp R q e.0) (eq_by_cmp R q k) v e.1 (lookup (is_at (R q)) es) (λ same. ap is_eq (o.congr q k e.0 (equal_of (R q k) same) ∙ is))

pub lookup_removed : {K X : Type 0} {R : K → K → Ordering} → IsTotalOrder R → (q k : K) (es : List (K × X)) → IsStrictlySortedBy R (keys_of es)
    → lookup (is_at (R q)) (remove_entry (is_at (R k)) es) ≡ cond (eq_by_cmp R q k) None (lookup (is_at (R q)) es)
lookup_removed {K} {X} {R} o q k es s =
    lookup-remove_entry (eq_by_cmp_equiv o) (is_at (R k)) (λ x y same. ap is_eq (o.congr k x y (equal_of (R k x) same))) q es (IsDistinct-from_sorted R (keys_of es) s)
    ∙ ap (λ b. cond b None (lookup (is_at (R q)) es)) ((eq_by_cmp_equiv o).symm k q)
