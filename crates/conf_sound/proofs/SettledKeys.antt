-- Entries with different keys are all kept where they are put in by their keys, and each value is in the place of its key.
use Rattle.std.proofs.Common.{◌≡◌, ◌∙◌, Bool, true, false, ◌||◌, List, [], ◌∷◌, map, refl, sym, ap}
use Rattle.std.proofs.Math.Bool.{or-false}
use Rattle.std.specs.Prelude.{fold}
use Rattle.std.specs.List.{AllByRecursion, IsDistinct, list_any}
use Rattle.std.specs.List.Sorted.{IsStrictlySortedBy}
use Rattle.std.specs.Map.{keys_of}
use Rattle.std.specs.BTreeMap.{insert_entry}
use Rattle.std.specs.declared.cmp.Ordering.{Ordering}
use Rattle.std.specs.declared.cmp.Ordering.TheVariants.{Less, Equal, Greater}
use Rattle.std.specs.Ordering.{match_ordering, is_eq, eq_by_cmp, on}
use Rattle.std.specs.Cmp.{IsTotalOrder, eq_by_cmp_equiv}
use Rattle.conf_tree.specs.Flat.{with_entry, by_key}
use Rattle.conf_tree.specs.Readable.{Each}
use Rattle.conf_sound.proofs.Lists.{IsEntry, insert_entry_form}

any_of_three : (a b c : Bool) → (a || (b || c)) ≡ (b || (a || c))
any_of_three true true c = refl
any_of_three true false c = refl
any_of_three false b c = refl

any_grouped : (a b c : Bool) → ((a || b) || c) ≡ (b || (a || c))
any_grouped true true c = refl
any_grouped true false c = refl
any_grouped false b c = refl

-- ---- entries with different keys

module _ {K A : Type 0} (cmp : K → K → Ordering) where
  -- no key of the entries is equal to this one
  abbrev IsFresh : List (K × A) → K → Type 0
  IsFresh es k = Each (IsEntry (λ q. eq_by_cmp cmp k q ≡ false) (λ (v : A). Unit {0})) es

  fresh_more : IsTotalOrder cmp → (sorted es : List (K × A)) (e : K × A) → Each (λ x. IsFresh sorted x.0) es → AllByRecursion (λ k. eq_by_cmp cmp e.0 k ≡ false) (keys_of es)
      → Each (λ x. IsFresh (insert_entry cmp sorted e.0 e.1) x.0) es
  fresh_more o sorted [] e h others = tt
  fresh_more o sorted (x ∷ es) e h others = (
    insert_entry_form (λ q. eq_by_cmp cmp x.0 q ≡ false) (λ (v : A). Unit {0}) cmp sorted e.0 e.1 h.0 ((eq_by_cmp_equiv o).symm x.0 e.0 ∙ others.0) tt,
    fresh_more o sorted es e h.1 others.1,
  )

  all_fresh : (es : List (K × A)) → Each (λ x. IsFresh [] x.0) es
  all_fresh [] = tt
  all_fresh (e ∷ es) = (tt, all_fresh es)

  module _ (test : A → Bool) where
    any_insert : (es : List (K × A)) (k : K) (v : A) → IsFresh es k → list_any (λ e. test e.1) (insert_entry cmp es k v) ≡ (test v || list_any (λ e. test e.1) es)
    any_insert [] k v h = refl
    any_insert (e ∷ es) k v h = by (cmp k e.0) h.0.0 (any_insert es k v h.1)
      where
        by : (r : Ordering) → is_eq r ≡ false → list_any (λ x. test x.1) (insert_entry cmp es k v) ≡ (test v || list_any (λ x. test x.1) es)
            → list_any (λ x. test x.1) (match_ordering r ((k, v) ∷ e ∷ es) ((e.0, v) ∷ es) (e ∷ insert_entry cmp es k v)) ≡ (test v || (test e.1 || list_any (λ x. test x.1) es))
        by Less other behind = refl
        by Equal other behind = absurd (cc)
        by Greater other behind = ap (λ b. test e.1 || b) behind ∙ any_of_three (test e.1) (test v) (list_any (λ x. test x.1) es)

    any_fold : IsTotalOrder cmp → (sorted es : List (K × A)) → Each (λ x. IsFresh sorted x.0) es → IsDistinct (eq_by_cmp cmp) (keys_of es)
        → list_any (λ e. test e.1) (fold (with_entry cmp) sorted es) ≡ (list_any (λ e. test e.1) sorted || list_any (λ e. test e.1) es)
    unfolding IsDistinct
    any_fold o sorted [] h others = sym (or-false (list_any (λ e. test e.1) sorted))
    any_fold o sorted (e ∷ es) h others =
        any_fold o (insert_entry cmp sorted e.0 e.1) es (fresh_more o sorted es e h.1 others.0) others.1
        ∙ ap (λ b. b || list_any (λ x. test x.1) es) (any_insert sorted e.0 e.1 h.0)
        ∙ any_grouped (test e.1) (list_any (λ x. test x.1) sorted) (list_any (λ x. test x.1) es)

    -- what some entry passes, some entry passes that is kept
    pub any_by_key : IsTotalOrder cmp → (es : List (K × A)) → IsDistinct (eq_by_cmp cmp) (keys_of es) → list_any (λ e. test e.1) (by_key cmp es) ≡ list_any (λ e. test e.1) es
    any_by_key o es others = any_fold o [] es (all_fresh es) others

-- ---- values that have their keys

module _ {K A : Type 0} (cmp : K → K → Ordering) (equal : (a b : K) → cmp a b ≡ Equal → a ≡ b) (key : A → K) where
  abbrev pub HasKey : K × A → Type 0
  HasKey e = key e.1 ≡ e.0

  insert_has_key : (es : List (K × A)) (k : K) (v : A) → Each HasKey es → key v ≡ k → Each HasKey (insert_entry cmp es k v)
  insert_has_key [] k v h is = (is, tt)
  insert_has_key (e ∷ es) k v h is = by (cmp k e.0) refl (insert_has_key es k v h.1 is)
    where
      by : (r : Ordering) → cmp k e.0 ≡ r → Each HasKey (insert_entry cmp es k v) → Each HasKey (match_ordering r ((k, v) ∷ e ∷ es) ((e.0, v) ∷ es) (e ∷ insert_entry cmp es k v))
      by Less t behind = (is, h)
      by Equal t behind = (is ∙ equal k e.0 t, h.1)
      by Greater t behind = (h.0, behind)

  fold_has_key : (sorted es : List (K × A)) → Each HasKey sorted → Each HasKey es → Each HasKey (fold (with_entry cmp) sorted es)
  fold_has_key sorted [] h k = h
  fold_has_key sorted (e ∷ es) h k = fold_has_key (insert_entry cmp sorted e.0 e.1) es (insert_has_key sorted e.0 e.1 h k.0) k.1

  pub by_key_has_key : (es : List (K × A)) → Each HasKey es → Each HasKey (by_key cmp es)
  by_key_has_key es h = fold_has_key [] es tt h

  below_values : (low : A) (first : K) (es : List (K × A)) → key low ≡ first → Each HasKey es → AllByRecursion (λ k. cmp first k ≡ Less) (keys_of es)
      → AllByRecursion (λ v. cmp (key low) (key v) ≡ Less) (map (λ e. e.1) es)
  below_values low first [] is h all = tt
  below_values low first (e ∷ es) is h all = ((λ i. cmp (is i) (h.0 i)) ∙ all.0, below_values low first es is h.1 all.1)

  -- the values of entries in the order of their keys are in that order
  pub values_sorted : (es : List (K × A)) → Each HasKey es → IsStrictlySortedBy cmp (keys_of es) → IsStrictlySortedBy (on key cmp) (map (λ e. e.1) es)
  unfolding IsStrictlySortedBy
  values_sorted [] h strict = tt
  values_sorted (e ∷ es) h strict = (below_values e.1 e.0 es h.0 h.1 strict.0, values_sorted es h.1 strict.1)
