-- Entries that were put in by their keys are in the order of their keys.
use Rattle.std.proofs.Common.{◌≡◌, ◌∙◌, ℕ, List, [], ◌∷◌, map, refl, ap}
use Rattle.std.specs.Prelude.{fold}
use Rattle.std.specs.List.{AllByRecursion}
use Rattle.std.specs.List.Sorted.{IsStrictlySortedBy}
use Rattle.std.specs.Map.{keys_of}
use Rattle.std.specs.BTreeMap.{insert_entry}
use Rattle.std.specs.declared.cmp.Ordering.{Ordering}
use Rattle.std.specs.declared.cmp.Ordering.TheVariants.{Less, Equal, Greater}
use Rattle.std.specs.Ordering.{match_ordering, on, ordering_reverse}
use Rattle.std.specs.Cmp.{IsTotalOrder}
use Rattle.std.specs.Cmp.Lexicographic.{nat_list_cmp_total}
use Rattle.conf_tree.specs.Flat.{text_cmp, with_entry, by_key}
use Rattle.conf_tree.proofs.InOrder.{above_first}

module _ {K A : Type 0} (R : K → K → Ordering) where
  -- a key below all others stays below them and a further one
  below_all : (low k : K) (v : A) (es : List (K × A)) → R low k ≡ Less → AllByRecursion (λ y. R low y ≡ Less) (keys_of es) → AllByRecursion (λ y. R low y ≡ Less) (keys_of (insert_entry R es k v))
  below_all low k v [] h all = (h, tt)
  below_all low k v (e ∷ es) h all = by (R k e.0) (below_all low k v es h all.1)
    where
      by : (r : Ordering) → AllByRecursion (λ y. R low y ≡ Less) (keys_of (insert_entry R es k v))
          → AllByRecursion (λ y. R low y ≡ Less) (keys_of (match_ordering r ((k, v) ∷ e ∷ es) ((e.0, v) ∷ es) (e ∷ insert_entry R es k v)))
      by Less behind = (h, all)
      by Equal behind = all
      by Greater behind = (all.0, behind)

  put_sorted : IsTotalOrder R → (es : List (K × A)) (k : K) (v : A) → IsStrictlySortedBy R (keys_of es) → IsStrictlySortedBy R (keys_of (insert_entry R es k v))
  unfolding IsStrictlySortedBy
  put_sorted o [] k v strict = (tt, tt)
  put_sorted o (e ∷ es) k v strict = by (R k e.0) refl (put_sorted o es k v strict.1)
    where
      by : (r : Ordering) → R k e.0 ≡ r → IsStrictlySortedBy R (keys_of (insert_entry R es k v))
          → IsStrictlySortedBy R (keys_of (match_ordering r ((k, v) ∷ e ∷ es) ((e.0, v) ∷ es) (e ∷ insert_entry R es k v)))
      by Less h behind = ((h, above_first o k e.0 (keys_of es) h strict.0), strict)
      by Equal h behind = strict
      by Greater h behind = (below_all e.0 k v es (o.antisymm e.0 k ∙ ap ordering_reverse h) strict.0, behind)

  pub all_sorted : IsTotalOrder R → (es more : List (K × A)) → IsStrictlySortedBy R (keys_of es) → IsStrictlySortedBy R (keys_of (fold (with_entry R) es more))
  all_sorted o es [] strict = strict
  all_sorted o es (e ∷ more) strict = all_sorted o (insert_entry R es e.0 e.1) more (put_sorted o es e.0 e.1 strict)

  -- what is made of entries in the order of their keys is in that order
  pub made_sorted : {S : Type 0} (key : S → K) (make : K × A → S) → ((e : K × A) → key (make e) ≡ e.0) → (es : List (K × A)) → IsStrictlySortedBy R (keys_of es) → IsStrictlySortedBy (on key R) (map make es)
  unfolding IsStrictlySortedBy
  made_sorted key make keeps [] strict = tt
  made_sorted {S} key make keeps (e ∷ es) strict = (each es strict.0, made_sorted key make keeps es strict.1)
    where
      each : (rest : List (K × A)) → AllByRecursion (λ y. R e.0 y ≡ Less) (keys_of rest) → AllByRecursion (λ s. R (key (make e)) (key s) ≡ Less) (map make rest)
      each [] all = tt
      each (x ∷ rest) all = ((λ i. R (keeps e i) (keeps x i)) ∙ all.0, each rest all.1)

-- sets made of entries that were put in by their names
pub sets_sorted : {A S : Type 0} (name_of : S → List ℕ) (make : List ℕ × A → S) → ((e : List ℕ × A) → name_of (make e) ≡ e.0) → (es : List (List ℕ × A))
    → IsStrictlySortedBy (on name_of text_cmp) (map make (by_key text_cmp es))
unfolding IsStrictlySortedBy
sets_sorted name_of make keeps es = made_sorted text_cmp name_of make keeps (by_key text_cmp es) (all_sorted text_cmp nat_list_cmp_total [] es tt)
