-- A list in order, and entries by their keys, are no more than the list that they are made of.
use Rattle.std.proofs.Common.{ℕ, ◌+◌, ◌≤◌, List, [], ◌∷◌, length, fold, arith}
use Rattle.std.specs.Ordering.{match_ordering}
use Rattle.std.specs.declared.cmp.Ordering.{Ordering}
use Rattle.std.specs.declared.cmp.Ordering.TheVariants.{Less, Equal, Greater}
use Rattle.std.specs.BTreeMap.{insert_entry}
use Rattle.std.specs.BTreeSet.{insert_key}
use Rattle.conf_tree.specs.Flat.{in_order, with_entry, by_key}
use Rattle.conf_tree.specs.Readable.{total}
use Rattle.conf_sound.proofs.Totals.{total_ones}

module _ {A : Type 0} (cmp : A → A → Ordering) where
  insert_key_size : (xs : List A) (x : A) → length (insert_key cmp xs x) ≤ 1 + length xs
  insert_key_size [] x = omega arith
  insert_key_size (y ∷ ys) x = by (cmp x y) (insert_key_size ys x)
    where
      by : (r : Ordering) → length (insert_key cmp ys x) ≤ 1 + length ys → length (match_ordering r (x ∷ y ∷ ys) (y ∷ ys) (y ∷ insert_key cmp ys x)) ≤ 1 + length (y ∷ ys)
      by Less h = omega arith
      by Equal h = omega arith
      by Greater h = omega (arith, h)

  fold_keys_size : (sorted xs : List A) → length (fold (insert_key cmp) sorted xs) ≤ length sorted + length xs
  fold_keys_size sorted [] = omega arith
  fold_keys_size sorted (x ∷ xs) = omega (arith, fold_keys_size (insert_key cmp sorted x) xs, insert_key_size sorted x)

  pub in_order_size : (xs : List A) → length (in_order cmp xs) ≤ length xs
  in_order_size xs = omega (arith, fold_keys_size [] xs)

module _ {K A : Type 0} (cmp : K → K → Ordering) (count : A → ℕ) where
  abbrev counted : List (K × A) → ℕ
  counted es = total (λ e. count e.1) es

  insert_entry_size : (es : List (K × A)) (k : K) (v : A) → counted (insert_entry cmp es k v) ≤ count v + counted es
  insert_entry_size [] k v = omega arith
  insert_entry_size (e ∷ es) k v = by (cmp k e.0) (insert_entry_size es k v)
    where
      by : (r : Ordering) → counted (insert_entry cmp es k v) ≤ count v + counted es → counted (match_ordering r ((k, v) ∷ e ∷ es) ((e.0, v) ∷ es) (e ∷ insert_entry cmp es k v)) ≤ count v + counted (e ∷ es)
      by Less h = omega arith
      by Equal h = omega arith
      by Greater h = omega (arith, h)

  fold_entries_size : (sorted es : List (K × A)) → counted (fold (with_entry cmp) sorted es) ≤ counted sorted + counted es
  fold_entries_size sorted [] = omega arith
  fold_entries_size sorted (e ∷ es) = omega (arith, fold_entries_size (insert_entry cmp sorted e.0 e.1) es, insert_entry_size sorted e.0 e.1)

  pub by_key_total : (es : List (K × A)) → counted (by_key cmp es) ≤ counted es
  by_key_total es = omega (arith, fold_entries_size [] es)

pub by_key_size : {K A : Type 0} (cmp : K → K → Ordering) (es : List (K × A)) → length (by_key cmp es) ≤ length es
by_key_size {K} {A} cmp es = omega (arith, by_key_total cmp (λ (v : A). 1) es, total_ones (by_key cmp es), total_ones es)
