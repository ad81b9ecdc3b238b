-- The lists of a configuration are in their order, and so are the entries of its sets.
use Rattle.std.proofs.Common.{◌≡◌, ◌∙◌, ℕ, List, [], ◌∷◌, map, refl, sym, ap, subst}
use Rattle.std.specs.Prelude.{fold, flat_map}
use Rattle.std.specs.List.{AllByRecursion}
use Rattle.std.specs.List.Sorted.{IsStrictlySortedBy}
use Rattle.std.specs.Ordering.{match_ordering, nat_cmp, on, ordering_reverse}
use Rattle.std.specs.declared.cmp.Ordering.{Ordering}
use Rattle.std.specs.declared.cmp.Ordering.TheVariants.{Less, Equal, Greater}
use Rattle.std.specs.Cmp.{IsTotalOrder}
use Rattle.std.proofs.lemmas.Cmp.{then_total, on_total, nat_cmp_total}
use Rattle.std.specs.BTreeSet.{insert_key}
use Rattle.net_base.specs.Order.{prefix_cmp}
use Rattle.net_base.proofs.Order.{prefix_cmp-total}
use Rattle.conf_tree.specs.declared.conf.Network.{Network}
use Rattle.conf_tree.specs.declared.draft.StatementLine.{StatementLine}
use Rattle.conf_tree.specs.declared.sets.AsSetConf.{AsSetConf}
use Rattle.conf_tree.specs.declared.sets.OriginSetConf.{OriginSetConf}
use Rattle.conf_tree.specs.declared.sets.PrefixSetConf.{PrefixSetConf}
use Rattle.conf_tree.specs.Said.{said, prefix_set_of, as_set_of, origin_set_of, roas_of, network_of}
use Rattle.conf_tree.specs.Flat.{text_cmp, range_cmp, roa_cmp, in_order, by_key, prefix_sets_of, as_sets_of, origin_sets_of, roas_said, networks_of}
use Rattle.conf_tree.proofs.InOrder.{above_first}
use Rattle.conf_tree.proofs.Sorted.{all_sorted, made_sorted}
use Rattle.conf_tree.specs.Readable.{Each}
use Rattle.conf_sound.proofs.Lists.{each_map, IsEntry, by_key_form}

-- ---- values in order

module _ {A : Type 0} (cmp : A → A → Ordering) where
  -- a value below all others stays below them and a further one
  below_more : (low x : A) (xs : List A) → cmp low x ≡ Less → AllByRecursion (λ y. cmp low y ≡ Less) xs → AllByRecursion (λ y. cmp low y ≡ Less) (insert_key cmp xs x)
  below_more low x [] h all = (h, tt)
  below_more low x (y ∷ ys) h all = by (cmp x y) (below_more low x ys h all.1)
    where
      by : (r : Ordering) → AllByRecursion (λ z. cmp low z ≡ Less) (insert_key cmp ys x) → AllByRecursion (λ z. cmp low z ≡ Less) (match_ordering r (x ∷ y ∷ ys) (y ∷ ys) (y ∷ insert_key cmp ys x))
      by Less behind = (h, all)
      by Equal behind = all
      by Greater behind = (all.0, behind)

  insert_sorted : IsTotalOrder cmp → (xs : List A) (x : A) → IsStrictlySortedBy cmp xs → IsStrictlySortedBy cmp (insert_key cmp xs x)
  unfolding IsStrictlySortedBy
  insert_sorted o [] x strict = (tt, tt)
  insert_sorted o (y ∷ ys) x strict = by (cmp x y) refl (insert_sorted o ys x strict.1)
    where
      by : (r : Ordering) → cmp x y ≡ r → IsStrictlySortedBy cmp (insert_key cmp ys x) → IsStrictlySortedBy cmp (match_ordering r (x ∷ y ∷ ys) (y ∷ ys) (y ∷ insert_key cmp ys x))
      by Less h behind = ((h, above_first o x y ys h strict.0), strict)
      by Equal h behind = strict
      by Greater h behind = (below_more y x ys (o.antisymm y x ∙ ap ordering_reverse h) strict.0, behind)

  fold_sorted : IsTotalOrder cmp → (sorted xs : List A) → IsStrictlySortedBy cmp sorted → IsStrictlySortedBy cmp (fold (insert_key cmp) sorted xs)
  fold_sorted o sorted [] strict = strict
  fold_sorted o sorted (x ∷ xs) strict = fold_sorted o (insert_key cmp sorted x) xs (insert_sorted o sorted x strict)

  in_order_sorted : IsTotalOrder cmp → (xs : List A) → IsStrictlySortedBy cmp (in_order cmp xs)
  unfolding IsStrictlySortedBy
  in_order_sorted o xs = fold_sorted o [] xs tt

range_cmp-total : IsTotalOrder range_cmp
range_cmp-total = then_total (on_total (λ r. r.prefix) prefix_cmp-total) (then_total (on_total (λ r. r.low) nat_cmp_total) (on_total (λ r. r.high) nat_cmp_total))

roa_cmp-total : IsTotalOrder roa_cmp
roa_cmp-total = then_total (on_total (λ r. r.prefix) prefix_cmp-total) (then_total (on_total (λ r. r.maxlen) nat_cmp_total) (on_total (λ r. r.source) nat_cmp_total))

-- ---- the entries of the sets of a text

module _ {A S : Type 0} (cmp : A → A → Ordering) (o : IsTotalOrder cmp) (make : List ℕ × List A → S) (entries : S → List A) (keeps : (e : List ℕ × List A) → entries (make e) ≡ e.1) where
  -- nothing is asked of the name of a set
  abbrev IsAny : List ℕ → Type 0
  IsAny name = Unit {0}

  -- its entries are in their order
  abbrev AreSorted : List A → Type 0
  AreSorted es = IsStrictlySortedBy cmp es

  sorted_each : (sets : List (List ℕ × List A)) → Each (IsEntry IsAny AreSorted) (map (λ set. (set.0, in_order cmp set.1)) sets)
  sorted_each [] = tt
  sorted_each (set ∷ sets) = ((tt, in_order_sorted cmp o set.1), sorted_each sets)

  entries_sorted : (sets : List (List ℕ × List A)) → Each (λ s. IsStrictlySortedBy cmp (entries s)) (map make (by_key text_cmp (map (λ set. (set.0, in_order cmp set.1)) sets)))
  entries_sorted sets =
      each_map (IsEntry IsAny AreSorted) (λ s. IsStrictlySortedBy cmp (entries s)) make _ (λ e k. subst AreSorted (sym (keeps e)) k.1)
      (by_key_form IsAny AreSorted text_cmp (map (λ set. (set.0, in_order cmp set.1)) sets) (sorted_each sets))

module _ (lines : List StatementLine) where
  pub prefix_entries_sorted : Each (λ (s : PrefixSetConf). IsStrictlySortedBy range_cmp s.entries) (prefix_sets_of lines)
  prefix_entries_sorted = entries_sorted range_cmp range_cmp-total (λ set. record { name = set.0; entries = set.1 }) (λ s. s.entries) (λ e. refl) (said prefix_set_of lines)

  pub as_entries_sorted : Each (λ (s : AsSetConf). IsStrictlySortedBy nat_cmp s.numbers) (as_sets_of lines)
  as_entries_sorted = entries_sorted nat_cmp nat_cmp_total (λ set. record { name = set.0; numbers = set.1 }) (λ s. s.numbers) (λ e. refl) (said as_set_of lines)

  pub origin_entries_sorted : Each (λ (s : OriginSetConf). IsStrictlySortedBy roa_cmp s.entries) (origin_sets_of lines)
  origin_entries_sorted = entries_sorted roa_cmp roa_cmp-total (λ set. record { name = set.0; entries = set.1 }) (λ s. s.entries) (λ e. refl) (said origin_set_of lines)

  pub roas_sorted : IsStrictlySortedBy roa_cmp (roas_said lines)
  roas_sorted = in_order_sorted roa_cmp roa_cmp-total (flat_map (λ l. roas_of l.statement) lines)

  pub networks_sorted : IsStrictlySortedBy (on (λ (n : Network). n.prefix) prefix_cmp) (networks_of lines)
  unfolding IsStrictlySortedBy
  networks_sorted =
      made_sorted prefix_cmp (λ (n : Network). n.prefix) (λ network. record { prefix = network.0; set = network.1 }) (λ e. refl) (by_key prefix_cmp (said network_of lines))
      (all_sorted prefix_cmp prefix_cmp-total [] (said network_of lines) tt)
