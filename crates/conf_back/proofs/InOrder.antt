-- Lists that are in order stay as they are when they are put in order.
use Rattle.std.proofs.Common.{◌≡◌, ◌∙◌, List, [], ◌∷◌, ◌++◌, map, fold, refl, ap, sym, subst, append_assoc, append-nil}
use Rattle.std.specs.List.{AllByRecursion}
use Rattle.std.specs.List.Sorted.{IsStrictlySortedBy}
use Rattle.std.specs.Map.{keys_of}
use Rattle.std.specs.BTreeMap.{insert_entry}
use Rattle.std.specs.BTreeSet.{insert_key}
use Rattle.std.specs.declared.cmp.Ordering.{Ordering}
use Rattle.std.specs.declared.cmp.Ordering.TheVariants.{Less, Greater}
use Rattle.std.specs.Ordering.{match_ordering, on, ordering_reverse}
use Rattle.std.specs.Cmp.{IsTotalOrder}
use Rattle.conf_tree.specs.Flat.{in_order, with_entry, by_key}

module _ {K : Type 0} (R : K → K → Ordering) (o : IsTotalOrder R) where
  -- a key is above each of these
  abbrev pub IsAbove : K → List K → Type 0
  IsAbove k ks = AllByRecursion (λ y. R y k ≡ Less) ks

  turned : (k y : K) → R y k ≡ Less → R k y ≡ Greater
  turned k y h = o.antisymm k y ∙ ap ordering_reverse h

  insert_last : (ks : List K) (k : K) → IsAbove k ks → insert_key R ks k ≡ ks ++ k ∷ []
  insert_last [] k h = refl
  insert_last (y ∷ ks) k h = ap (λ (r : Ordering). match_ordering r (k ∷ y ∷ ks) (y ∷ ks) (y ∷ insert_key R ks k)) (turned k y h.0) ∙ ap (λ (zs : List K). y ∷ zs) (insert_last ks k h.1)

  more_above : (k : K) (ks : List K) (x : K) → IsAbove k ks → R x k ≡ Less → IsAbove k (ks ++ x ∷ [])
  more_above k [] x h less = (less, tt)
  more_above k (y ∷ ks) x h less = (h.0, more_above k ks x h.1 less)

  -- each key of the second list is above all of the first one
  abbrev AreAbove : List K → List K → Type 0
  AreAbove ks [] = Unit {0}
  AreAbove ks (x ∷ xs) = IsAbove x ks × AreAbove ks xs

  all_above : (ks : List K) (x : K) (xs : List K) → AllByRecursion (λ y. R x y ≡ Less) xs → AreAbove ks xs → AreAbove (ks ++ x ∷ []) xs
  all_above ks x [] h a = tt
  all_above ks x (y ∷ xs) h a = (more_above y ks x a.0 h.0, all_above ks x xs h.1 a.1)

  keys_stay : (done xs : List K) → IsStrictlySortedBy R xs → AreAbove done xs → fold (insert_key R) done xs ≡ done ++ xs
  unfolding IsStrictlySortedBy
  keys_stay done [] s a = sym (append-nil done)
  keys_stay done (x ∷ xs) s a =
      ap (λ (ks : List K). fold (insert_key R) ks xs) (insert_last done x a.0) ∙ keys_stay (done ++ x ∷ []) xs s.1 (all_above done x xs s.0 a.1) ∙ append_assoc done (x ∷ []) xs

  none_above : (xs : List K) → AreAbove [] xs
  none_above [] = tt
  none_above (x ∷ xs) = (tt, none_above xs)

  pub order_stays : (xs : List K) → IsStrictlySortedBy R xs → in_order R xs ≡ xs
  order_stays xs s = keys_stay [] xs s (none_above xs)

  -- ---- entries by their keys

  module _ {A : Type 0} where
    entry_last : (es : List (K × A)) (k : K) (v : A) → IsAbove k (keys_of es) → insert_entry R es k v ≡ es ++ (k, v) ∷ []
    entry_last [] k v h = refl
    entry_last (e ∷ es) k v h = ap (λ (r : Ordering). match_ordering r ((k, v) ∷ e ∷ es) ((e.0, v) ∷ es) (e ∷ insert_entry R es k v)) (turned k e.0 h.0) ∙ ap (λ (zs : List (K × A)). e ∷ zs) (entry_last es k v h.1)

    keys_more : (es : List (K × A)) (k : K) (v : A) → keys_of (es ++ (k, v) ∷ []) ≡ keys_of es ++ k ∷ []
    keys_more [] k v = refl
    keys_more (e ∷ es) k v = ap (λ (ks : List K). e.0 ∷ ks) (keys_more es k v)

    entries_stay : (done es : List (K × A)) → IsStrictlySortedBy R (keys_of es) → AreAbove (keys_of done) (keys_of es) → fold (with_entry R) done es ≡ done ++ es
    unfolding IsStrictlySortedBy
    entries_stay done [] s a = sym (append-nil done)
    entries_stay done (e ∷ es) s a =
        ap (λ (fs : List (K × A)). fold (with_entry R) fs es) (entry_last done e.0 e.1 a.0)
        ∙ entries_stay (done ++ e ∷ []) es s.1 (subst (λ (ks : List K). AreAbove ks (keys_of es)) (sym (keys_more done e.0 e.1)) (all_above (keys_of done) e.0 (keys_of es) s.0 a.1)) ∙ append_assoc done (e ∷ []) es

    pub entries_by_key_stay : (es : List (K × A)) → IsStrictlySortedBy R (keys_of es) → by_key R es ≡ es
    entries_by_key_stay es s = entries_stay [] es s (none_above (keys_of es))

  -- ---- things in the order of a key that they have

  module _ {S : Type 0} (key : S → K) where
    each_key : (x : S) (xs : List S) → AllByRecursion (λ y. R (key x) (key y) ≡ Less) xs → AllByRecursion (λ k. R (key x) k ≡ Less) (map key xs)
    each_key x [] h = tt
    each_key x (y ∷ xs) h = (h.0, each_key x xs h.1)

    pub keys_sorted : (xs : List S) → IsStrictlySortedBy (on key R) xs → IsStrictlySortedBy R (map key xs)
    unfolding IsStrictlySortedBy
    keys_sorted [] s = tt
    keys_sorted (x ∷ xs) s = (each_key x xs s.0, keys_sorted xs s.1)

    module _ {A : Type 0} (value : S → A) where
      entry_keys : (xs : List S) → keys_of (map (λ x. (key x, value x)) xs) ≡ map key xs
      entry_keys [] = refl
      entry_keys (x ∷ xs) = ap (λ (ks : List K). key x ∷ ks) (entry_keys xs)

      -- what is made of the entries is what they were made of
      made_again : (make : K × A → S) (xs : List S) → ((x : S) → make (key x, value x) ≡ x) → map make (map (λ x. (key x, value x)) xs) ≡ xs
      made_again make [] same = refl
      made_again make (x ∷ xs) same = λ i. same x i ∷ made_again make xs same i

      pub things_stay : (make : K × A → S) (xs : List S) → ((x : S) → make (key x, value x) ≡ x) → IsStrictlySortedBy (on key R) xs → map make (by_key R (map (λ x. (key x, value x)) xs)) ≡ xs
      things_stay make xs same s =
          ap (map make) (entries_by_key_stay (map (λ x. (key x, value x)) xs) (subst (IsStrictlySortedBy R) (sym (entry_keys xs)) (keys_sorted xs s))) ∙ made_again make xs same
